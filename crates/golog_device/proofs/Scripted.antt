-- A device that tells what is left of its script has the turn of a scripted device.
use Rattle.std.proofs.Common.{◌≡◌, ℕ, ◌+◌, Bool, true, false, if◌then◌else◌, Option, Some, None, List, [], ◌∷◌, ◌++◌, refl, sym, ap, ◌∙◌, subst}
use Rattle.std.specs.Prelude.{slice_get, is_some, codes}
use Rattle.std.specs.Option.{option_map_or}
use Rattle.std.proofs.lemmas.List.{append-nil}
use Rattle.golog_tree.specs.declared.agent.Agent.{Agent}
use Rattle.golog_semantics.specs.declared.journal.Item.{Item}
use Rattle.golog_semantics.specs.declared.journal.Item.TheVariants as item
use Rattle.golog_semantics.specs.Journal.{Journal, Command, commands, fluent_sensed, is_sensing, has_end, entries_by, last_of, is_rest_after, is_at_rest}
use Rattle.golog_semantics.specs.Posts.{posted_entry}
use Rattle.golog_semantics.specs.Same.{same_values}
use Rattle.golog_semantics.specs.Text.{Text}
use Rattle.golog_semantics.specs.Inline.{Scripted, posted_action, posted_value, idle_item as scripted_item, posting, answering, after_service, idling, turn_by, turn}
use Rattle.golog_semantics.specs.Dealt.{Meaning, Script, value_item}
use Rattle.golog_journal.specs.declared.board.Next.TheVariants.{Nothing as NoCommand, Ended}
use Rattle.golog_journal.specs.Taken.{IsReady}
use Rattle.golog_journal.specs.Commands.{is_resting}
use Rattle.golog_journal.specs.Posting.{PostIs}
use Rattle.golog_journal.specs.Growing.{Sight, Called}
use Rattle.golog_device.specs.declared.device.Served.{Served}
use Rattle.golog_device.specs.declared.device.Served.TheVariants.{Nothing, Value}
use Rattle.golog_device.specs.declared.device.Idle.{Idle}
use Rattle.golog_device.specs.declared.device.Idle.TheVariants.{Post, Rest, Close}
use Rattle.golog_device.specs.declared.turn.Turned.{Turned}
use Rattle.golog_device.specs.declared.turn.Turned.TheVariants as turned
use Rattle.golog_device.specs.Devices.{next_answer, rest_of, idle_of, next_idle, ServesBy, IdlesBy}
use Rattle.golog_device.specs.Turns.{PostsItem, answer_item, idle_item, idle_turn, TurnsBy, Turns}
use Rattle.golog_device.specs.Dealing.{scripted, LeftAfter, ScriptedTurn}
use Rattle.golog_device.proofs.Asked.{mid-ready, done-by}
use Rattle.golog_device.proofs.DealtTurn.{all-taken}

-- what no one else adds to is as the call left it
alone-adds : (answers : Journal → Journal → Type 0) (old new : Sight) (added : Journal) (called : Called answers old new) → old.alone ≡ true
    → called.added ≡ added → new.seen ≡ old.seen ++ added
alone-adds answers old new added called alone is =
    called.grows ∙ ap (λ o. (old.seen ++ o) ++ called.added) ((called.are_others).none alone)
    ∙ ap (λ j. j ++ called.added) (append-nil old.seen) ∙ ap (λ a. old.seen ++ a) is

module _ (agent : Agent) (device : ℕ) where
  -- what was posted is the entry at the list as it was
  post-alone : (n : ℕ) (i : Item) (done result : Turned) (mid new : Sight) → mid.agent ≡ agent → mid.alone ≡ true
      → PostsItem device n (Some i) done result mid new → new.seen ≡ mid.seen ++ posted_entry agent mid.seen device n i ∷ []
  post-alone n i done result mid new own alone (reply, came, called) =
      alone-adds (λ point. PostIs mid.agent point device n i reply) mid new (posted_entry agent mid.seen device n i ∷ []) called alone
      ((called.answered).one
      ∙ ap (λ j. posted_entry mid.agent j device n i ∷ []) (ap (λ o. mid.seen ++ o) ((called.are_others).none alone) ∙ append-nil mid.seen)
      ∙ ap (λ a. posted_entry a mid.seen device n i ∷ []) own)

  idle-same : (text : Text) → idle_item agent (idle_of text) ≡ scripted_item agent text
  idle-same text = go (same_values text (codes "rest")) (same_values text (codes "close"))
    where
      go : (a b : Bool) → idle_item agent (if a then Rest else (if b then Close else Post text))
          ≡ (if a then item.Rest else (if b then item.Close else posted_action agent text))
      go true b = refl
      go false true = refl
      go false false = refl

  module _ (taken count : ℕ) (result : Turned) (old new : Sight) (was is : Meaning) (own : old.agent ≡ agent) (held : old.holds device ≡ true)
      (ready : IsReady agent old.seen device taken) (turns : Turns agent device taken result count old new was is) (alone : old.alone ≡ true) where
    abbrev mid : Sight
    mid = turns.asked

    mid-own : mid.agent ≡ agent
    mid-own = (turns.asks).agent ∙ own

    mid-alone : mid.alone ≡ true
    mid-alone = (turns.asks).alone ∙ alone

    same : mid.seen ≡ old.seen
    same =
        (turns.asks).grows ∙ ap (λ a. (old.seen ++ (turns.asks).others) ++ a) ((turns.asks).answered).none ∙ append-nil (old.seen ++ (turns.asks).others)
        ∙ ap (λ o. old.seen ++ o) (((turns.asks).are_others).none alone) ∙ append-nil old.seen

    abbrev Goes : Script → Script → Type 0
    Goes left later = turn agent mid.seen device (scripted left taken) ≡ (new.seen, scripted later count)

    -- the turn of a scripted device, by its next command
    by-next : (left later : Script) (o : Option Command) → slice_get (commands agent device mid.seen) taken ≡ o
        → turn_by agent mid.seen device (scripted left taken) o ≡ (new.seen, scripted later count) → Goes left later
    by-next left later o next h = ap (turn_by agent mid.seen device (scripted left taken)) next ∙ h

    posts-so : (n : ℕ) (i : Item) (done : Turned) → PostsItem device n (Some i) done result mid new → new.seen ≡ mid.seen ++ posted_entry agent mid.seen device n i ∷ []
    posts-so n i done posts = post-alone n i done result mid new mid-own mid-alone posts

    pair : (journal journal' : Journal) (d d' : Scripted) → journal ≡ journal' → d ≡ d' → ◌≡◌ {A = Journal × Scripted} (journal, d) (journal', d')
    pair journal journal' d d' a b = ap (λ j. (j, d)) a ∙ ap (λ x. (journal', x)) b

    counted : (left : Script) (n : ℕ) → count ≡ n → scripted left n ≡ scripted left count
    counted left n e = ap (scripted left) (sym e)

    -- by what is left
    after-left : (P : Option Script → Option Script → Type 0) → P was.left is.left
        → ((left : Script) (b : Option Script) → P (Some left) b → LeftAfter agent device (Some left) mid.seen taken b new.seen count)
        → LeftAfter agent device was.left mid.seen taken is.left new.seen count
    after-left P by one = go was.left is.left by
      where
        go : (a b : Option Script) → P a b → LeftAfter agent device a mid.seen taken b new.seen count
        go None b p = tt
        go (Some left) b p = one left b p

    later-is : (left later : Script) (b : Option Script) → b ≡ Some later → Goes left later → LeftAfter agent device (Some left) mid.seen taken b new.seen count
    later-is left later b e goes = subst (λ o. LeftAfter agent device (Some left) mid.seen taken o new.seen count) (sym e) goes

    -- a command that is not asked for an answer
    unasked : (c : Command) → slice_get (commands agent device mid.seen) taken ≡ Some c → is_sensing agent c.action ≡ false → (answer : Served) → count ≡ taken + 1
        → ServesBy was.left false answer is.left → PostsItem device (taken + 1) (answer_item agent device c.action false answer) turned.Served result mid new
        → LeftAfter agent device was.left mid.seen taken is.left new.seen count
    unasked c next senses answer more by posts =
        after-left (λ a b. ServesBy a false answer b) by (λ left b p. later-is left left b p.1 (one left answer p.0 posts))
      where
        silent : (o : Option ℕ) → is_some o ≡ false → (d : Scripted) → after_service agent mid.seen device d o ≡ (mid.seen, d)
        silent None h d = refl
        silent (Some f) h d = absurd (cc)

        one : (left : Script) (a : Served) → a ≡ Nothing → PostsItem device (taken + 1) (answer_item agent device c.action false a) turned.Served result mid new → Goes left left
        one left Nothing e posts =
            by-next left left (Some c) next
            (silent (fluent_sensed agent c.action) senses (scripted left (taken + 1))
            ∙ pair mid.seen new.seen (scripted left (taken + 1)) (scripted left count) (sym (ap (λ (s : Sight). s.seen) posts.1)) (counted left (taken + 1) more))
        one left (Value bytes) e posts = absurd (cc)

    -- one that is
    asked : (c : Command) → slice_get (commands agent device mid.seen) taken ≡ Some c → is_sensing agent c.action ≡ true → (answer : Served) → count ≡ taken + 1
        → ServesBy was.left true answer is.left → PostsItem device (taken + 1) (answer_item agent device c.action true answer) turned.Served result mid new
        → LeftAfter agent device was.left mid.seen taken is.left new.seen count
    asked c next senses answer more by posts =
        after-left (λ a b. ServesBy a true answer b) by (λ left b p. one left b left.answers refl answer p.0 p.1 posts)
      where
        -- the script's answers are these
        answers-so : (f : ℕ) (left : Script) (answers : List Text) (a : Served) → left.answers ≡ answers → a ≡ next_answer answers → fluent_sensed agent c.action ≡ Some f
            → PostsItem device (taken + 1) (answer_item agent device c.action true a) turned.Served result mid new
            → answering agent mid.seen device (scripted left (taken + 1)) f answers ≡ (new.seen, scripted (record left { answers = rest_of answers }) count)
        answers-so f left [] Nothing is e tells posts =
            pair (mid.seen ++ posted_entry agent mid.seen device (taken + 1) item.Silent ∷ []) new.seen (scripted left (taken + 1)) (scripted (record left { answers = [] }) count)
            (sym (posts-so (taken + 1) item.Silent turned.Served posts))
            (ap (λ l. scripted (record left { answers = l }) (taken + 1)) is ∙ counted (record left { answers = [] }) (taken + 1) more)
        answers-so f left [] (Value bytes) is e tells posts = absurd (cc)
        answers-so f left (x ∷ xs) Nothing is e tells posts = absurd (cc)
        answers-so f left (x ∷ xs) (Value bytes) is e tells posts =
            let same_bytes : bytes ≡ x = cc in
            let i : value_item agent device (fluent_sensed agent c.action) bytes ≡ posted_value agent f x
            = ap (λ o. value_item agent device o bytes) tells ∙ ap (posted_value agent f) same_bytes in
            pair (mid.seen ++ posted_entry agent mid.seen device (taken + 1) (posted_value agent f x) ∷ []) new.seen
            (scripted (record left { answers = xs }) (taken + 1)) (scripted (record left { answers = xs }) count)
            (ap (λ y. mid.seen ++ posted_entry agent mid.seen device (taken + 1) y ∷ []) (sym i)
            ∙ sym (posts-so (taken + 1) (value_item agent device (fluent_sensed agent c.action) bytes) turned.Served posts))
            (counted (record left { answers = xs }) (taken + 1) more)

        tells-one : (o : Option ℕ) → fluent_sensed agent c.action ≡ o → is_some o ≡ true → (f : ℕ) × (fluent_sensed agent c.action ≡ Some f)
        tells-one None is h = absurd (cc)
        tells-one (Some f) is h = (f, is)

        one : (left : Script) (b : Option Script) (answers : List Text) → left.answers ≡ answers → (a : Served) → a ≡ next_answer answers
            → b ≡ Some (record left { answers = rest_of answers })
            → PostsItem device (taken + 1) (answer_item agent device c.action true a) turned.Served result mid new
            → LeftAfter agent device (Some left) mid.seen taken b new.seen count
        one left b answers at a e later posts =
            let f = tells-one (fluent_sensed agent c.action) refl senses in
            later-is left (record left { answers = rest_of answers }) b later
            (by-next left (record left { answers = rest_of answers }) (Some c) next
            (ap (after_service agent mid.seen device (scripted left (taken + 1))) f.1
            ∙ ap (answering agent mid.seen device (scripted left (taken + 1)) f.0) at
            ∙ answers-so f.0 left answers a at e f.1 posts))

    -- without a command, after the end
    stopped : slice_get (commands agent device mid.seen) taken ≡ None → has_end mid.seen ≡ true → count ≡ taken → is ≡ was
        → PostsItem device taken (Some item.Stop) turned.Posted result mid new → LeftAfter agent device was.left mid.seen taken is.left new.seen count
    stopped next ends more stays posts =
        after-left (λ a b. b ≡ a) (ap (λ (m : Meaning). m.left) stays) (λ left b e. later-is left left b e (one left))
      where
        one : (left : Script) → Goes left left
        one left =
            by-next left left None next
            (ap (λ x. if x then posting agent mid.seen device (scripted left taken) item.Stop
            else (if is_at_rest agent mid.seen device then (mid.seen, scripted left taken) else idling agent mid.seen device (scripted left taken) left.idle)) ends
            ∙ pair (mid.seen ++ posted_entry agent mid.seen device taken item.Stop ∷ []) new.seen (scripted left taken) (scripted left count)
            (sym (posts-so taken item.Stop turned.Posted posts)) (counted left taken more))

    module _ (next : slice_get (commands agent device mid.seen) taken ≡ None) where
      -- it rests with all its commands taken
      rests-so : (r : Bool) → is_resting agent mid.seen device taken ≡ r → is_at_rest agent mid.seen device ≡ r
      rests-so r rests = ap (λ n. option_map_or (is_rest_after n) (last_of (entries_by device mid.seen)) false) (all-taken agent mid.seen device taken on.driven next) ∙ rests
        where
          on : IsReady agent mid.seen device taken
          on = mid-ready agent device taken count result old new was is own held ready turns

      unended : has_end mid.seen ≡ false → (left : Script) (r : Bool) → is_resting agent mid.seen device taken ≡ r
          → turn_by agent mid.seen device (scripted left taken) None
          ≡ (if r then (mid.seen, scripted left taken) else idling agent mid.seen device (scripted left taken) left.idle)
      unended goes left r rests =
          ap (λ x. if x then posting agent mid.seen device (scripted left taken) item.Stop
          else (if is_at_rest agent mid.seen device then (mid.seen, scripted left taken) else idling agent mid.seen device (scripted left taken) left.idle)) goes
          ∙ ap (λ x. if x then (mid.seen, scripted left taken) else idling agent mid.seen device (scripted left taken) left.idle) (rests-so r rests)

      resting : has_end mid.seen ≡ false → is_resting agent mid.seen device taken ≡ true → count ≡ taken → is ≡ was → (result ≡ turned.Nothing) × (new ≡ mid)
          → LeftAfter agent device was.left mid.seen taken is.left new.seen count
      resting goes rests more stays posts =
          after-left (λ a b. b ≡ a) (ap (λ (m : Meaning). m.left) stays)
          (λ left b e. later-is left left b e
          (by-next left left None next (unended goes left true rests
          ∙ pair mid.seen new.seen (scripted left taken) (scripted left count) (sym (ap (λ (s : Sight). s.seen) posts.1)) (counted left taken more))))

      idles-so : has_end mid.seen ≡ false → (answer : Idle) → is_resting agent mid.seen device taken ≡ false → count ≡ taken → IdlesBy was.left answer is.left
          → PostsItem device taken (Some (idle_item agent answer)) (idle_turn answer) result mid new
          → LeftAfter agent device was.left mid.seen taken is.left new.seen count
      idles-so goes answer rests more by posts = after-left (λ a b. IdlesBy a answer b) by (λ left b p. one left b left.idle refl p.0 p.1)
        where
          fills : (left : Script) (idle : List Text) → left.idle ≡ idle → answer ≡ next_idle idle
              → idling agent mid.seen device (scripted left taken) idle ≡ (new.seen, scripted (record left { idle = rest_of idle }) count)
          fills left [] is e =
              pair (mid.seen ++ posted_entry agent mid.seen device taken item.Close ∷ []) new.seen (scripted left taken) (scripted (record left { idle = [] }) count)
              (ap (λ a. mid.seen ++ posted_entry agent mid.seen device taken (idle_item agent a) ∷ []) (sym e) ∙ sym (posts-so taken (idle_item agent answer) (idle_turn answer) posts))
              (ap (λ l. scripted (record left { idle = l }) taken) is ∙ counted (record left { idle = [] }) taken more)
          fills left (x ∷ xs) is e =
              pair (mid.seen ++ posted_entry agent mid.seen device taken (scripted_item agent x) ∷ []) new.seen
              (scripted (record left { idle = xs }) taken) (scripted (record left { idle = xs }) count)
              (ap (λ i. mid.seen ++ posted_entry agent mid.seen device taken i ∷ []) (sym (idle-same x) ∙ ap (idle_item agent) (sym e))
              ∙ sym (posts-so taken (idle_item agent answer) (idle_turn answer) posts))
              (counted (record left { idle = xs }) taken more)

          one : (left : Script) (b : Option Script) (idle : List Text) → left.idle ≡ idle → answer ≡ next_idle idle → b ≡ Some (record left { idle = rest_of idle })
              → LeftAfter agent device (Some left) mid.seen taken b new.seen count
          one left b idle at e later =
              later-is left (record left { idle = rest_of idle }) b later
              (by-next left (record left { idle = rest_of idle }) None next
              (unended goes left false rests ∙ ap (idling agent mid.seen device (scripted left taken)) at ∙ fills left idle at e))

      without : (e : Bool) → has_end mid.seen ≡ e → (r : Bool) → is_resting agent mid.seen device taken ≡ r
          → TurnsBy agent device taken (if e then Ended else NoCommand r) result count mid new was is
          → LeftAfter agent device was.left mid.seen taken is.left new.seen count
      without true ends r rests (more, stays, posts) = stopped next ends more stays posts
      without false goes true rests (more, stays, posts) = resting goes rests more stays posts
      without false goes false rests (more, (answer, idles, posts)) = idles-so goes answer rests more idles.by_script posts

    at-mid : (o : Option Command) → slice_get (commands agent device mid.seen) taken ≡ o → LeftAfter agent device was.left mid.seen taken is.left new.seen count
    at-mid (Some c) next =
        let d = done-by agent device taken count result old new was is own held ready turns (Some c) next in
        by (is_sensing agent c.action) refl d.1.0 d.0 (d.1.1).by_script d.1.2
      where
        by : (b : Bool) → is_sensing agent c.action ≡ b → (answer : Served) → count ≡ taken + 1 → ServesBy was.left b answer is.left
            → PostsItem device (taken + 1) (answer_item agent device c.action b answer) turned.Served result mid new
            → LeftAfter agent device was.left mid.seen taken is.left new.seen count
        by true senses answer more serves posts = asked c next senses answer more serves posts
        by false senses answer more serves posts = unasked c next senses answer more serves posts
    at-mid None next =
        without next (has_end mid.seen) refl (is_resting agent mid.seen device taken) refl
        (done-by agent device taken count result old new was is own held ready turns None next)

    -- the turn of a scripted device
    pub scripted-turn : ScriptedTurn agent device old.seen taken was new.seen count is
    scripted-turn = subst (λ j. LeftAfter agent device was.left j taken is.left new.seen count) same (at-mid (slice_get (commands agent device mid.seen) taken) refl)
