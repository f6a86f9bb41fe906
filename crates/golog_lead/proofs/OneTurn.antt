-- What one turn of a device makes of a board's list to which no one else adds entries, and of the device.
use Rattle.std.proofs.Common.{◌≡◌, ◌≢◌, ℕ, ◌+◌, ◌<◌, ◌≤◌, ◌⊎◌, Bool, true, false, ◌==◌, if◌then◌else◌, Option, Some, None, [], ◌∷◌, ◌++◌, length, length-append, refl, sym, ap, ◌∙◌, subst, inl, inr, arith}
use Rattle.std.specs.Prelude.{slice_get}
use Rattle.std.specs.Option.{option_map_or}
use Rattle.std.proofs.lemmas.Bool.{and_from, or_from, eq-eqb}
use Rattle.std.proofs.lemmas.Option.{slice_get_within}
use Rattle.std.proofs.lemmas.List.{append-nil}
use Rattle.golog_tree.specs.declared.agent.Agent.{Agent}
use Rattle.golog_semantics.specs.declared.journal.Entry.{Entry}
use Rattle.golog_semantics.specs.declared.journal.Entry.TheVariants.{Rest, Close}
use Rattle.golog_semantics.specs.declared.journal.Item.{Item}
use Rattle.golog_semantics.specs.declared.journal.Item.TheVariants as item
use Rattle.golog_semantics.specs.declared.journal.Reason.{Reason}
use Rattle.golog_semantics.specs.declared.journal.Reason.TheVariants as reason
use Rattle.golog_semantics.specs.Journal.{Journal, Command, commands, is_sensing, is_posted_by, entries_by, is_open, is_full, has_end, last_of, is_rest_after}
use Rattle.golog_semantics.specs.Posts.{awaited_command, closing, is_bad, result_of, entry_of, posted_entry}
use Rattle.golog_semantics.specs.Dealt.{Meaning, Script}
use Rattle.golog_journal.specs.declared.board.Next.{Next}
use Rattle.golog_journal.specs.declared.board.Next.TheVariants.{Command as Commanded, Nothing as NoCommand, Ended}
use Rattle.golog_journal.specs.Boards.{IsBoardList}
use Rattle.golog_journal.specs.Taken.{IsReady}
use Rattle.golog_journal.specs.Commands.{is_resting, next_by}
use Rattle.golog_journal.specs.Growing.{Sight}
use Rattle.golog_journal.proofs.Staying.{commands-append, from}
use Rattle.golog_device.specs.declared.turn.Turned.{Turned}
use Rattle.golog_device.specs.declared.turn.Turned.TheVariants as turned
use Rattle.golog_device.specs.Turns.{SameBoard, PostsItem, answer_item, idle_item, idle_turn, TurnsBy, Turns}
use Rattle.golog_device.specs.Dealing.{DealtSoFar, DealtAfter, DealtIf, DealtNow}
use Rattle.golog_device.proofs.DealtTurn.{few-of, all-taken}
use Rattle.golog_device.proofs.Asked.{done-by}
use Rattle.golog_device.proofs.Commanded.{answer-plain, idle-plain, not-refused}
use Rattle.golog_lead.specs.Rounds.{is_refusal}
use Rattle.golog_lead.specs.Moments.{LeavesAll, RestsAt, TurnMade}

-- a device has no fewer commands behind more entries
pub few-more : (agent : Agent) (device n : ℕ) (journal others : Journal) → n ≤ length (commands agent device journal)
    → n ≤ length (commands agent device (journal ++ others))
few-more agent device n journal others few =
    let more = length-append (commands agent device journal) (from agent device (0 + length journal) others) in
    let all : length (commands agent device (journal ++ others)) ≡ length (commands agent device journal ++ from agent device (0 + length journal) others) =
    ap (λ cs. length cs) (commands-append agent journal others device) in
    omega (arith, few, more, all)

module _ (agent : Agent) (device : ℕ) where
  -- what is put in for an item is the device's
  entry-own : (journal : Journal) (n : ℕ) (i : Item) → is_posted_by device (posted_entry agent journal device n i) ≡ true
  entry-own journal n i = by (closing agent journal device n i)
    where
      itself : (device == device) ≡ true
      itself = eq-eqb device device refl

      result : (value : ℕ) (o : Option Command) → is_posted_by device (option_map_or (result_of agent journal device n value) o (Rest device n)) ≡ true
      result value None = itself
      result value (Some c) = itself

      entry : (x : Item) → is_posted_by device (entry_of agent journal device n x) ≡ true
      entry (item.Exo action) = itself
      entry (item.Value value) = result value (awaited_command agent journal device n)
      entry item.Rest = itself
      entry item.Close = itself
      entry item.Unreadable = itself
      entry item.Silent = itself
      entry item.Stop = itself
      entry item.Refused = itself

      by : (o : Option Reason) → is_posted_by device (option_map_or (λ r. Close device r n) o (entry_of agent journal device n i)) ≡ true
      by None = entry i
      by (Some r) = itself

  -- what is put in for an item that refuses no script refuses none
  reason-unrefused : (n : ℕ) (b c d : Bool) (e : Entry) → is_refusal e ≡ false
      → is_refusal
      (option_map_or (λ r. Close device r n)
      (if b then Some reason.Late else (if c then Some reason.Full else (if d then Some reason.Bad else None))) e)
      ≡ false
  reason-unrefused n true c d e h = refl
  reason-unrefused n false true d e h = refl
  reason-unrefused n false false true e h = refl
  reason-unrefused n false false false e h = h

  entry-unrefused : (journal : Journal) (n : ℕ) (i : Item) → i ≢ item.Refused → is_refusal (posted_entry agent journal device n i) ≡ false
  entry-unrefused journal n i other = by i other
    where
      result : (value : ℕ) (o : Option Command) → is_refusal (option_map_or (result_of agent journal device n value) o (Rest device n)) ≡ false
      result value None = refl
      result value (Some c) = refl

      later : (x : Item) → is_refusal (entry_of agent journal device n x) ≡ false
          → is_refusal
          (option_map_or (λ r. Close device r n)
          (if has_end journal then Some reason.Late else (if is_full journal then Some reason.Full else (if is_bad agent journal device n x then Some reason.Bad else None)))
          (entry_of agent journal device n x))
          ≡ false
      later x h = reason-unrefused n (has_end journal) (is_full journal) (is_bad agent journal device n x) (entry_of agent journal device n x) h

      by : (x : Item) → x ≢ item.Refused → is_refusal (posted_entry agent journal device n x) ≡ false
      by (item.Exo action) h = later (item.Exo action) refl
      by (item.Value value) h = later (item.Value value) (result value (awaited_command agent journal device n))
      by item.Rest h = later item.Rest refl
      by item.Close h = refl
      by item.Unreadable h = later item.Unreadable refl
      by item.Silent h = later item.Silent refl
      by item.Stop h = refl
      by item.Refused h = absurd (h refl)

  -- what was posted is the entry at the list as it was
  post-alone : (n : ℕ) (i : Item) (done result : Turned) (mid new : Sight) → mid.agent ≡ agent → mid.alone ≡ true
      → PostsItem device n (Some i) done result mid new → new.seen ≡ mid.seen ++ posted_entry agent mid.seen device n i ∷ []
  post-alone n i done result mid new own alone (reply, came, called) =
      let none = (called.are_others).none alone in
      called.grows
      ∙ ap (λ added. (mid.seen ++ called.others) ++ added) (called.answered).one
      ∙ ap (λ a. (mid.seen ++ called.others) ++ posted_entry a (mid.seen ++ called.others) device n i ∷ []) own
      ∙ ap (λ j. j ++ posted_entry agent j device n i ∷ []) (ap (λ o. mid.seen ++ o) none ∙ append-nil mid.seen)

  module _ (taken count : ℕ) (result : Turned) (old new : Sight) (was is : Meaning) (own : old.agent ≡ agent) (held : old.holds device ≡ true)
      (ready : IsReady agent old.seen device taken) (turns : Turns agent device taken result count old new was is) (alone : old.alone ≡ true)
      (later : is_open device new.seen ≡ true → IsReady agent new.seen device count) where
    abbrev mid : Sight
    mid = turns.asked

    mid-own : mid.agent ≡ agent
    mid-own = (turns.asks).agent ∙ own

    mid-alone : mid.alone ≡ true
    mid-alone = (turns.asks).alone ∙ alone

    same : mid.seen ≡ old.seen
    same =
        (turns.asks).grows ∙ ap (λ a. (old.seen ++ (turns.asks).others) ++ a) ((turns.asks).answered).none ∙ append-nil (old.seen ++ (turns.asks).others)
        ∙ ap (λ o. old.seen ++ o) (((turns.asks).are_others).none alone) ∙ append-nil old.seen

    there : IsReady agent mid.seen device taken
    there = subst (λ j. IsReady agent j device taken) (sym same) ready

    few-mid : taken ≤ length (commands agent device mid.seen)
    few-mid = few-of agent mid.seen device taken there.driven

    few-old : (n : ℕ) → n ≤ length (commands agent device mid.seen) → n ≤ length (commands agent device old.seen)
    few-old n few = subst (λ j. n ≤ length (commands agent device j)) same few

    -- an entry was posted
    with-entry : (n : ℕ) (i : Item) (done : Turned) → i ≢ item.Refused → count ≡ n → taken ≤ n → n ≤ length (commands agent device mid.seen)
        → PostsItem device n (Some i) done result mid new → TurnMade agent device old.seen taken new.seen count
    with-entry n i done other is_n more few posts =
        let e = posted_entry agent mid.seen device n i in
        let grown : new.seen ≡ old.seen ++ e ∷ [] = post-alone n i done result mid new mid-own mid-alone posts ∙ ap (λ j. j ++ e ∷ []) same in
        let longer : length new.seen ≡ length old.seen + 1 = ap (λ j. length j) grown ∙ length-append old.seen (e ∷ []) in
        record {
          since = e ∷ [];
          grows = grown;
          own = and_from _ _ (entry-own mid.seen n i) refl;
          unrefused = or_from _ _ (entry-unrefused mid.seen n i other) refl;
          few =
              subst (λ k. k ≤ length (commands agent device new.seen)) (sym is_n)
              (subst (λ j. n ≤ length (commands agent device j)) (sym grown) (few-more agent device n old.seen (e ∷ []) (few-old n few)));
          ready = later;
          goes = inl (omega (arith, longer, is_n, more));
        }

    still : new ≡ mid → new.seen ≡ old.seen
    still stays = ap (λ (s : Sight). s.seen) stays ∙ same

    -- nothing was posted
    with-none : (n : ℕ) → count ≡ n → n ≤ length (commands agent device mid.seen) → new ≡ mid
        → (length old.seen + taken < length new.seen + count) ⊎ LeavesAll agent device old.seen taken new.seen count
        → TurnMade agent device old.seen taken new.seen count
    with-none n is_n few stays goes =
        let here = still stays in
        record {
          since = [];
          grows = here ∙ sym (append-nil old.seen);
          own = refl;
          unrefused = refl;
          few =
              subst (λ k. k ≤ length (commands agent device new.seen)) (sym is_n)
              (subst (λ j. n ≤ length (commands agent device j)) (sym here) (few-old n few));
          ready = later;
          goes = goes;
        }

    -- a command was taken, and nothing posted
    with-command : count ≡ taken + 1 → taken + 1 ≤ length (commands agent device mid.seen) → new ≡ mid → TurnMade agent device old.seen taken new.seen count
    with-command more few stays =
        let long : length new.seen ≡ length old.seen = ap (λ j. length j) (still stays) in
        with-none (taken + 1) more few stays (inl (omega (arith, long, more)))

    -- it rests
    with-nothing : count ≡ taken → new ≡ mid → has_end mid.seen ≡ false → is_resting agent mid.seen device taken ≡ true
        → slice_get (commands agent device mid.seen) taken ≡ None → TurnMade agent device old.seen taken new.seen count
    with-nothing as_many stays goes_on rests next =
        with-none taken as_many few-mid stays
        (inr (record {
          same = still stays;
          same_taken = as_many;
          rests =
              subst (λ j. RestsAt agent j device) same at;
        }))
      where
        at : RestsAt agent mid.seen device
        at = record {
          goes_on = goes_on;
          at_rest = ap (λ n. option_map_or (is_rest_after n) (last_of (entries_by device mid.seen)) false) (all-taken agent mid.seen device taken there.driven next) ∙ rests;
        }

    within : (c : Command) → slice_get (commands agent device mid.seen) taken ≡ Some c → taken + 1 ≤ length (commands agent device mid.seen)
    within c next = let k = slice_get_within (commands agent device mid.seen) taken c next in omega (arith, k)

    by-command : (c : Command) → slice_get (commands agent device mid.seen) taken ≡ Some c → count ≡ taken + 1 → (o : Option Item) → ((i : Item) → o ≡ Some i → i ≢ item.Refused)
        → PostsItem device (taken + 1) o turned.Served result mid new → TurnMade agent device old.seen taken new.seen count
    by-command c next more None told (done, stays) = with-command more (within c next) stays
    by-command c next more (Some i) told posts = with-entry (taken + 1) i turned.Served (told i refl) more (omega arith) (within c next) posts

    by-none : slice_get (commands agent device mid.seen) taken ≡ None → (e : Bool) → has_end mid.seen ≡ e → (r : Bool) → is_resting agent mid.seen device taken ≡ r
        → TurnsBy agent device taken (if e then Ended else NoCommand r) result count mid new was is → TurnMade agent device old.seen taken new.seen count
    by-none next true ends r rests (as_many, stays, posts) = with-entry taken item.Stop turned.Posted (λ e. absurd (cc)) as_many (omega arith) few-mid posts
    by-none next false ends true rests (as_many, stays, posts) = with-nothing as_many posts.1 ends rests next
    by-none next false ends false rests (as_many, (answer, idles, posts)) =
        with-entry taken (idle_item agent answer) (idle_turn answer) (not-refused (idle_item agent answer) (idle-plain agent answer)) as_many (omega arith) few-mid posts

    pub turn-made : TurnMade agent device old.seen taken new.seen count
    turn-made = go (slice_get (commands agent device mid.seen) taken) refl
      where
        does : (o : Option Command) → slice_get (commands agent device mid.seen) taken ≡ o
            → TurnsBy agent device taken (next_by agent mid.seen device taken o) result count mid new was is
        does o next = done-by agent device taken count result old new was is own held ready turns o next

        go : (o : Option Command) → slice_get (commands agent device mid.seen) taken ≡ o → TurnMade agent device old.seen taken new.seen count
        go (Some c) next =
            let d = does (Some c) next in
            by-command c next d.0 (answer_item agent device c.action (is_sensing agent c.action) d.1.0)
            (λ i is. not-refused i (answer-plain agent device c.action (is_sensing agent c.action) d.1.0 i is)) d.1.2
        go None next = by-none next (has_end mid.seen) refl (is_resting agent mid.seen device taken) refl (does None next)

  -- a device that was dealt with over its turn is dealt with now
  pub dealt-now : (r : Turned) (journal : Journal) (n : ℕ) (script : Script) (m : Meaning) → (is_open device journal ≡ false → r ≡ turned.Closed)
      → (r ≡ turned.Closed → is_open device journal ≡ false) → DealtAfter agent device r journal n script m → DealtNow agent device journal n script m
  dealt-now r journal n script m shut closed after = go r (is_open device journal) refl shut closed after
    where
      far : (x : Turned) (b : Bool) → is_open device journal ≡ b → x ≢ turned.Closed → (is_open device journal ≡ false → x ≡ turned.Closed)
          → DealtSoFar agent device journal n script m → DealtIf agent device b journal n script m
      far x true is other shut so_far = so_far
      far x false is other shut so_far = absurd (other (shut is))

      go : (x : Turned) (b : Bool) → is_open device journal ≡ b → (is_open device journal ≡ false → x ≡ turned.Closed)
          → (x ≡ turned.Closed → is_open device journal ≡ false) → DealtAfter agent device x journal n script m → DealtIf agent device b journal n script m
      go turned.Closed true is shut closed after = absurd (let k = sym is ∙ closed refl in cc)
      go turned.Closed false is shut closed after = after
      go turned.Served b is shut closed after = far turned.Served b is (λ e. absurd (cc)) shut after
      go turned.Posted b is shut closed after = far turned.Posted b is (λ e. absurd (cc)) shut after
      go turned.Rested b is shut closed after = far turned.Rested b is (λ e. absurd (cc)) shut after
      go turned.Nothing b is shut closed after = far turned.Nothing b is (λ e. absurd (cc)) shut after

  -- the board stays the same over a post, and its list keeps the rules
  abbrev pub Keeps : Sight → Sight → Type 0
  Keeps old new = SameBoard old new × IsBoardList new.agent new.seen

  kept-post : (n : ℕ) (o : Option Item) (done result : Turned) (point new : Sight) → IsBoardList point.agent point.seen → PostsItem device n o done result point new
      → Keeps point new
  kept-post n None done result point new list (is_done, stays) =
      subst (Keeps point) (sym stays) (record { same_agent = refl; same_alone = refl; same_holds = refl }, list)
  kept-post n (Some i) done result point new list (reply, came, called) =
      (record { same_agent = called.agent; same_alone = called.alone; same_holds = called.holds }, called.lawful)

  kept-does : (taken count : ℕ) (told : Next) (result : Turned) (point new : Sight) (was is : Meaning) → IsBoardList point.agent point.seen
      → TurnsBy agent device taken told result count point new was is → Keeps point new
  kept-does taken count (Commanded place action asked) result point new was is list (more, (answer, serves, posts)) =
      kept-post (taken + 1) (answer_item agent device action asked answer) turned.Served result point new list posts
  kept-does taken count Ended result point new was is list (as_many, stays, posts) = kept-post taken (Some item.Stop) turned.Posted result point new list posts
  kept-does taken count (NoCommand true) result point new was is list (as_many, stays, posts) = kept-post taken None turned.Nothing result point new list posts
  kept-does taken count (NoCommand false) result point new was is list (as_many, (answer, idles, posts)) =
      kept-post taken (Some (idle_item agent answer)) (idle_turn answer) result point new list posts

  -- and over a turn
  pub turn-keeps : (taken count : ℕ) (result : Turned) (old new : Sight) (was is : Meaning) → Turns agent device taken result count old new was is → Keeps old new
  turn-keeps taken count result old new was is turns =
      let asks = turns.asks in
      let later = kept-does taken count turns.told result turns.asked new was is asks.lawful turns.does in (
        record {
          same_agent = (later.0).same_agent ∙ asks.agent;
          same_alone = (later.0).same_alone ∙ asks.alone;
          same_holds = (later.0).same_holds ∙ asks.holds;
        },
        later.1,
      )
