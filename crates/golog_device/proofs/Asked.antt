-- The lists at which a board was asked and posted to, and that a device may go on after a turn.
use Rattle.std.proofs.Common.{◌≡◌, ◌≢◌, ℕ, ◌+◌, Bool, true, false, not, ◌==◌, if◌then◌else◌, Option, Some, None, [], ◌∷◌, ◌++◌, length, refl, sym, ap, ◌∙◌, subst, append_assoc, ◌⊎◌, inl, inr}
use Rattle.std.specs.Prelude.{slice_get}
use Rattle.std.specs.List.{list_any}
use Rattle.std.specs.Option.{option_map_or}
use Rattle.std.proofs.lemmas.Bool.{or_parts, or_from, or_right, eq-eqb, eqb-true}
use Rattle.std.proofs.lemmas.Option.{slice_get_within}
use Rattle.std.proofs.lemmas.List.{append-nil}
use Rattle.std.proofs.lemmas.List.Folds.{list_any-append}
use Rattle.golog_tree.specs.declared.agent.Agent.{Agent}
use Rattle.golog_semantics.specs.declared.journal.Entry.{Entry}
use Rattle.golog_semantics.specs.declared.journal.Entry.TheVariants.{Close}
use Rattle.golog_semantics.specs.declared.journal.Item.{Item}
use Rattle.golog_semantics.specs.declared.journal.Item.TheVariants as item
use Rattle.golog_semantics.specs.declared.journal.Reason.{Reason}
use Rattle.golog_semantics.specs.Journal.{Journal, Command, commands, fluent_sensed, is_sensing, is_posted_by, poster_of, entries_by, is_close, is_open, has_end}
use Rattle.golog_semantics.specs.Posts.{closing, entry_of, posted_entry}
use Rattle.golog_semantics.proofs.Grown.{posted-push}
use Rattle.golog_semantics.proofs.GroundNumbers.{slice_get-left}
use Rattle.golog_semantics.specs.Dealt.{Meaning, value_item}
use Rattle.golog_journal.specs.declared.board.Next.{Next}
use Rattle.golog_journal.specs.declared.board.Next.TheVariants.{Nothing as NoCommand, Ended}
use Rattle.golog_journal.specs.Boards.{IsBoardList}
use Rattle.golog_journal.specs.Taken.{IsDriven, IsReady}
use Rattle.golog_journal.specs.Commands.{is_resting, next_by, next_of, NextIs}
use Rattle.golog_journal.specs.Posting.{posted_at}
use Rattle.golog_journal.specs.Growing.{Sight, Called, AreOthers, party_of}
use Rattle.golog_journal.specs.Laws.{AreNotOf}
use Rattle.golog_journal.proofs.Lawful.{lawful-front}
use Rattle.golog_journal.proofs.Staying.{commands-append, ready_stays, from}
use Rattle.golog_device.specs.declared.device.Served.{Served}
use Rattle.golog_device.specs.declared.device.Served.TheVariants.{Nothing, Value}
use Rattle.golog_device.specs.declared.device.Idle.{Idle}
use Rattle.golog_device.specs.declared.device.Idle.TheVariants.{Post, Rest as Resting, Close as Closing}
use Rattle.golog_device.specs.declared.turn.Turned.{Turned}
use Rattle.golog_device.specs.declared.turn.Turned.TheVariants as turned
use Rattle.golog_device.specs.Turns.{done_by, PostsItem, answer_item, idle_item, idle_turn, TurnsBy, Turns}
use Rattle.golog_device.proofs.Taking.{driven-next, ready-next, ready-posted}

-- the front of a board's list is one
pub lawful-prefix : (agent : Agent) (journal others : Journal) → IsBoardList agent (journal ++ others) → IsBoardList agent journal
lawful-prefix agent journal [] list = subst (IsBoardList agent) (append-nil journal) list
lawful-prefix agent journal (e ∷ others) list =
    lawful-front agent journal e (lawful-prefix agent (journal ++ e ∷ []) others (subst (IsBoardList agent) (sym (append_assoc journal (e ∷ []) others)) list))

-- what others added is not the device's, where the board holds the device's party
pub others-foreign : (sight : Sight) (device : ℕ) (others : Journal) → sight.holds device ≡ true → AreOthers sight others → AreNotOf device others
others-foreign sight device others held are = go others are.foreign
  where
    own : (e : Entry) → sight.holds (party_of e) ≡ false → is_posted_by device e ≡ false
    own e free = by (poster_of e) refl free
      where
        by : (o : Option ℕ) → poster_of e ≡ o → sight.holds (option_map_or (λ d. d) (poster_of e) 16) ≡ false → option_map_or (λ p. p == device) (poster_of e) false ≡ false
        by None is free = ap (λ o. option_map_or (λ p. p == device) o false) is
        by (Some p) is free = ap (λ o. option_map_or (λ p. p == device) o false) is ∙ test (p == device) refl
          where
            test : (b : Bool) → (p == device) ≡ b → (p == device) ≡ false
            test true e = absurd (let k : sight.holds device ≡ false = ap sight.holds (sym (eqb-true p device e)) ∙ ap (λ o. sight.holds (option_map_or (λ d. d) o 16)) (sym is) ∙ free in cc)
            test false e = e

    go : (es : Journal) → list_any (λ e. sight.holds (party_of e)) es ≡ false → list_any (is_posted_by device) es ≡ false
    go [] none = refl
    go (e ∷ es) none =
        let parts = or_parts (sight.holds (party_of e)) (list_any (λ e. sight.holds (party_of e)) es) none in
        or_from _ _ (own e parts.0) (go es parts.1)

module _ (agent : Agent) (device : ℕ) where
  -- a board's list that goes on from another by entries of others
  pub record GoesOn (journal point : Journal) : Type 0 where
    pub others : Journal
    pub grows : point ≡ journal ++ others
    pub foreign : AreNotOf device others
    pub list : IsBoardList agent point

  pub ready-there : (taken : ℕ) (journal point : Journal) → GoesOn journal point → IsReady agent journal device taken → IsReady agent point device taken
  ready-there taken journal point goes ready =
      subst (λ j. IsReady agent j device taken) (sym goes.grows)
      (ready_stays agent journal goes.others device taken
      (lawful-prefix agent journal goes.others (subst (IsBoardList agent) goes.grows goes.list)) goes.foreign ready)

  -- the device's next command is the same there
  pub next-there : (taken : ℕ) (c : Command) (journal point : Journal) → GoesOn journal point → slice_get (commands agent device journal) taken ≡ Some c
      → slice_get (commands agent device point) taken ≡ Some c
  next-there taken c journal point goes next =
      ap (λ j. slice_get (commands agent device j) taken) goes.grows
      ∙ ap (λ cs. slice_get cs taken) (commands-append agent journal goes.others device)
      ∙ slice_get-left (commands agent device journal) (from agent device (0 + length journal) goes.others) taken
      (slice_get_within (commands agent device journal) taken c next)
      ∙ next

  -- the list at which the board told what to do
  pub asked-point : (taken : ℕ) (told : Next) (old asked : Sight) → old.agent ≡ agent → old.holds device ≡ true
      → Called (λ point. NextIs agent point device taken told) old asked → GoesOn old.seen asked.seen × (told ≡ next_of agent asked.seen device taken)
  asked-point taken told old asked own held called = (
    (record {
      others = called.others;
      grows = grows;
      foreign = others-foreign old device called.others held called.are_others;
      list = subst (λ a. IsBoardList a asked.seen) (called.agent ∙ own) called.lawful;
    }),
    (called.answered).told ∙ ap (λ j. next_of agent j device taken) (sym grows),
  )
    where
      grows : asked.seen ≡ old.seen ++ called.others
      grows = called.grows ∙ ap (λ added. (old.seen ++ called.others) ++ added) (called.answered).none ∙ append-nil (old.seen ++ called.others)

  -- the list at which an item was posted
  pub record PostedAt (count : ℕ) (i : Item) (done result : Turned) (mid new : Sight) : Type 0 where
    pub at : Journal
    pub goes : GoesOn mid.seen at
    pub seen : new.seen ≡ at ++ posted_entry agent at device count i ∷ []
    pub turned : result ≡ done_by (posted_at (length at) (closing agent at device count i)) done

  pub posted-point : (count : ℕ) (i : Item) (done result : Turned) (mid new : Sight) → mid.agent ≡ agent → mid.holds device ≡ true
      → PostsItem device count (Some i) done result mid new → PostedAt count i done result mid new
  posted-point count i done result mid new own held (reply, came, called) = record {
    at = point;
    goes = record {
      others = called.others;
      grows = refl;
      foreign = others-foreign mid device called.others held called.are_others;
      list = lawful-prefix agent point called.added (subst (λ a. IsBoardList a (point ++ called.added)) (called.agent ∙ own)
          (subst (IsBoardList new.agent) called.grows called.lawful));
    };
    seen =
        called.grows ∙ ap (λ added. point ++ added) (called.answered).one
        ∙ ap (λ a. point ++ posted_entry a point device count i ∷ []) own;
    turned = came ∙ ap (λ r. done_by r done) ((called.answered).told ∙ ap (λ a. posted_at (length point) (closing a point device count i)) own);
  }
    where
      point : Journal
      point = mid.seen ++ called.others

  -- a device that was closed is not open
  pub closed-shut : (point : Journal) (r : Reason) (count : ℕ) → is_open device (point ++ Close device r count ∷ []) ≡ false
  closed-shut point r count =
      ap (λ es. not (list_any is_close es))
      (posted-push point (Close device r count) device ∙ ap (λ b. entries_by device point ++ (if b then Close device r count ∷ [] else [])) (eq-eqb device device refl))
      ∙ ap not (list_any-append is_close (entries_by device point) (Close device r count ∷ []) ∙ or_right (list_any is_close (entries_by device point)) true refl)

  -- what came of a turn: the device may go on, or its Close stands
  pub record Stays (result : Turned) (count : ℕ) (seen : Journal) : Type 0 where
    pub other : result ≢ turned.Closed
    pub ready : IsReady agent seen device count

  pub record Shuts (result : Turned) (seen : Journal) : Type 0 where
    pub closed : result ≡ turned.Closed
    pub shut : is_open device seen ≡ false

  abbrev pub Came : Turned → ℕ → Journal → Type 0
  Came result count seen = Stays result count seen ⊎ Shuts result seen

  -- after a post
  after-post : (count : ℕ) (i : Item) (done result : Turned) (mid new : Sight) → mid.agent ≡ agent → mid.holds device ≡ true → done ≢ turned.Closed
      → ((point : Journal) → GoesOn mid.seen point → IsDriven agent point device count) → PostsItem device count (Some i) done result mid new
      → Came result count new.seen
  after-post count i done result mid new own held other driven posts = go (closing agent p.at device count i) refl
    where
      p : PostedAt count i done result mid new
      p = posted-point count i done result mid new own held posts

      go : (o : Option Reason) → closing agent p.at device count i ≡ o → Came result count new.seen
      go None none =
          inl (record {
            other = λ e. other (sym (p.turned ∙ ap (λ o. done_by (posted_at (length p.at) o) done) none) ∙ e);
            ready = subst (λ j. IsReady agent j device count) (sym p.seen)
                (ready-posted agent p.at device count (p.goes).list (driven p.at p.goes) i none);
          })
      go (Some r) why =
          inr (record {
            closed = p.turned ∙ ap (λ o. done_by (posted_at (length p.at) o) done) why;
            shut =
                ap (is_open device) (p.seen ∙ ap (λ o. p.at ++ option_map_or (λ r. Close device r count) o (entry_of agent p.at device count i) ∷ []) why)
                ∙ closed-shut p.at r count;
          })

  module _ (taken count : ℕ) (result : Turned) (old new : Sight) (was is : Meaning) (own : old.agent ≡ agent) (held : old.holds device ≡ true)
      (ready : IsReady agent old.seen device taken) (turns : Turns agent device taken result count old new was is) where
    abbrev pub mid : Sight
    mid = turns.asked

    mid-own : mid.agent ≡ agent
    mid-own = (turns.asks).agent ∙ own

    mid-held : mid.holds device ≡ true
    mid-held = ap (λ (holds : ℕ → Bool). holds device) (turns.asks).holds ∙ held

    pub mid-point : GoesOn old.seen mid.seen × (turns.told ≡ next_of agent mid.seen device taken)
    mid-point = asked-point taken turns.told old mid own held turns.asks

    pub mid-ready : IsReady agent mid.seen device taken
    mid-ready = ready-there taken old.seen mid.seen mid-point.0 ready

    -- what was done, by the device's next command there
    pub done-by : (o : Option Command) → slice_get (commands agent device mid.seen) taken ≡ o
        → TurnsBy agent device taken (next_by agent mid.seen device taken o) result count mid new was is
    done-by o next =
        subst (λ x. TurnsBy agent device taken (next_by agent mid.seen device taken x) result count mid new was is) next
        (subst (λ t. TurnsBy agent device taken t result count mid new was is) mid-point.1 turns.does)

    -- nothing was posted
    kept-at : (n : ℕ) (done : Turned) → done ≢ turned.Closed → count ≡ n → (result ≡ done) × (new ≡ mid) → IsReady agent mid.seen device n → Came result count new.seen
    kept-at n done other same (is_done, still) on =
        inl (record {
          other = λ e. other (sym is_done ∙ e);
          ready = subst (λ k. IsReady agent new.seen device k) (sym same) (subst (λ (s : Sight). IsReady agent s.seen device n) (sym still) on);
        })

    came-at : (n : ℕ) → count ≡ n → Came result n new.seen → Came result count new.seen
    came-at n same came = subst (λ k. Came result k new.seen) (sym same) came

    idle-other : (answer : Idle) → idle_turn answer ≢ turned.Closed
    idle-other (Post bytes) e = absurd (cc)
    idle-other Resting e = absurd (cc)
    idle-other Closing e = absurd (cc)

    after-command : (c : Command) → slice_get (commands agent device mid.seen) taken ≡ Some c → (b : Bool) → is_sensing agent c.action ≡ b → (answer : Served)
        → count ≡ taken + 1 → PostsItem device (taken + 1) (answer_item agent device c.action b answer) turned.Served result mid new → Came result count new.seen
    after-command c next b senses answer same posts = go b senses answer posts
      where
        driven : (point : Journal) → GoesOn mid.seen point → IsDriven agent point device (taken + 1)
        driven point goes =
            driven-next agent point device taken goes.list (ready-there taken mid.seen point goes mid-ready) c (next-there taken c mid.seen point goes next)

        go : (x : Bool) → is_sensing agent c.action ≡ x → (a : Served) → PostsItem device (taken + 1) (answer_item agent device c.action x a) turned.Served result mid new
            → Came result count new.seen
        go false senses Nothing posts =
            kept-at (taken + 1) turned.Served (λ e. absurd (cc)) same posts
            (ready-next agent mid.seen device taken (mid-point.0).list mid-ready c next senses)
        go false senses (Value bytes) posts =
            came-at (taken + 1) same (after-post (taken + 1) item.Unreadable turned.Served result mid new mid-own mid-held (λ e. absurd (cc)) driven posts)
        go true senses Nothing posts =
            came-at (taken + 1) same (after-post (taken + 1) item.Silent turned.Served result mid new mid-own mid-held (λ e. absurd (cc)) driven posts)
        go true senses (Value bytes) posts =
            came-at (taken + 1) same
            (after-post (taken + 1) (value_item agent device (fluent_sensed agent c.action) bytes) turned.Served result mid new mid-own mid-held (λ e. absurd (cc)) driven posts)

    still-driven : (point : Journal) → GoesOn mid.seen point → IsDriven agent point device taken
    still-driven point goes = (ready-there taken mid.seen point goes mid-ready).driven

    after-none : (e : Bool) → has_end mid.seen ≡ e → (r : Bool) → is_resting agent mid.seen device taken ≡ r
        → TurnsBy agent device taken (if e then Ended else NoCommand r) result count mid new was is → Came result count new.seen
    after-none true ends r rests (same, stays, posts) =
        came-at taken same (after-post taken item.Stop turned.Posted result mid new mid-own mid-held (λ e. absurd (cc)) still-driven posts)
    after-none false ends true rests (same, stays, posts) = kept-at taken turned.Nothing (λ e. absurd (cc)) same posts mid-ready
    after-none false ends false rests (same, (answer, idles, posts)) =
        came-at taken same (after-post taken (idle_item agent answer) (idle_turn answer) result mid new mid-own mid-held (idle-other answer) still-driven posts)

    pub after-turn : Came result count new.seen
    after-turn = go (slice_get (commands agent device mid.seen) taken) refl
      where
        go : (o : Option Command) → slice_get (commands agent device mid.seen) taken ≡ o → Came result count new.seen
        go (Some c) next =
            let d = done-by (Some c) next in after-command c next (is_sensing agent c.action) refl d.1.0 d.0 d.1.2
        go None next = after-none (has_end mid.seen) refl (is_resting agent mid.seen device taken) refl (done-by None next)

    -- where it was not closed the device may go on
    pub turn-ready : result ≢ turned.Closed → IsReady agent new.seen device count
    turn-ready other = go after-turn
      where
        go : Came result count new.seen → IsReady agent new.seen device count
        go (inl stays) = stays.ready
        go (inr shuts) = absurd (other shuts.closed)

    -- it was closed exactly where its Close stands
    pub turn-closed : (result ≡ turned.Closed → is_open device new.seen ≡ false) × (is_open device new.seen ≡ false → result ≡ turned.Closed)
    turn-closed = (λ e. one after-turn e, λ e. other after-turn e)
      where
        one : Came result count new.seen → result ≡ turned.Closed → is_open device new.seen ≡ false
        one (inl stays) e = absurd (stays.other e)
        one (inr shuts) e = shuts.shut

        other : Came result count new.seen → is_open device new.seen ≡ false → result ≡ turned.Closed
        other (inl stays) e = absurd (let k = ((stays.ready).driven).still_open in let j = sym k ∙ e in cc)
        other (inr shuts) e = shuts.closed
