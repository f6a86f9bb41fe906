-- What a side keeps where it sends a command or its program goes on, and at each step.
use Rattle.std.proofs.Common.{◌≡◌, ◌≢◌, ℕ, zero, suc, ◌+◌, ◌-◌, ◌≤◌, ◌<◌, Bool, true, false, not, ◌&&◌, ◌||◌, ◌==◌, if◌then◌else◌, Option, Some, None, List, [], ◌∷◌, ◌++◌, length, length-append, take, refl, sym, ap, ◌∙◌, subst, arith, append_assoc, ◌⊎◌, inl, inr}
use Rattle.std.specs.Prelude.{map, is_some, slice_get, option_map, Contains}
use Rattle.std.specs.List.{list_any, cons_option}
use Rattle.std.specs.Option.{option_map_or, option_to_list}
use Rattle.std.proofs.lemmas.Bool.{or_parts, or_from, or_right, or_left, and_parts, and_from, not_from_false, not-true, eqb-true, eq-eqb}
use Rattle.std.proofs.lemmas.Option.{same_Some, slice_get_within, slice_get-map}
use Rattle.std.proofs.lemmas.List.{append-nil, map-append, take-append-le, take_all, length-take-le, length-map}
use Rattle.std.proofs.lemmas.List.Elements.{Contains-push_cases, Contains-push}
use Rattle.golog_base.proofs.Bools.{or-false}
use Rattle.golog_tree.specs.declared.agent.Agent.{Agent}
use Rattle.golog_semantics.specs.declared.journal.Entry.{Entry}
use Rattle.golog_semantics.specs.declared.journal.Entry.TheVariants.{Do, Test, Exo, Sense, Rest, Close, End}
use Rattle.golog_semantics.specs.declared.journal.Item.{Item}
use Rattle.golog_semantics.specs.declared.journal.Item.TheVariants as item
use Rattle.golog_semantics.specs.declared.journal.Reason.{Reason}
use Rattle.golog_semantics.specs.declared.journal.Reason.TheVariants as why
use Rattle.golog_semantics.specs.Inline.{posted_action}
use Rattle.golog_semantics.specs.Journal.{Journal, Command, commands, is_carried_by, is_sensing, is_posted_by, entries_by, is_close, is_open, is_end, has_end, is_full, is_at_rest, is_rest_after, is_quiet, may_post, last_of}
use Rattle.golog_semantics.specs.OneMore.{new_command}
use Rattle.golog_semantics.specs.Posts.{awaited_command, is_bad, later_reason, closing, entry_of, posted_entry}
use Rattle.golog_semantics.specs.Text.{Text, action_text}
use Rattle.golog_semantics.proofs.Grown.{commands_grow, entries_grow, commands-push}
use Rattle.golog_journal.specs.Boards.{IsBoardList}
use Rattle.golog_journal.specs.Taken.{IsDriven, IsReady}
use Rattle.golog_journal.specs.Posting.{MayPost}
use Rattle.golog_journal.specs.Leading.{is_of_program}
use Rattle.golog_journal.proofs.Sensing.{sensed-inside}
use Rattle.golog_journal.proofs.Serving.{well_formed_serves}
use Rattle.golog_journal.proofs.PostsLawful.{post-list}
use Rattle.golog_device.proofs.Places.{stands}
use Rattle.golog_device.proofs.Reading.{action-told}
use Rattle.golog_device.proofs.Taking.{take-next, ready-next, ready-posted}
use Rattle.golog_device.proofs.DealtTurn.{few-of, all-taken}
use Rattle.golog_device.proofs.Asked.{closed-shut}
use Rattle.golog_device.proofs.Commanded.{IsPlain, may-plain}
use Rattle.golog_team.specs.declared.note.Note.{Note}
use Rattle.golog_team.specs.declared.note.Note.TheVariants.{Send, Waiting, Ended}
use Rattle.golog_team.specs.declared.note.SideNote.{SideNote}
use Rattle.golog_team.specs.declared.did.Did.{Did}
use Rattle.golog_team.specs.Notes.{Notes, put_by, across, is_own, is_news, is_send, is_waiting, is_ended_of, action_sent, sent_by, sends, ends, waited, has_waited, both_wait}
use Rattle.golog_team.specs.Shapes.{has_shape, may_hear, AreMatched}
use Rattle.golog_team.specs.Steps.{Station, station, seen_at, Reads, item_of, journal_with, journal_after, untaken, IsClear, Waits, HasDone, IsToSay, Acts, Steps, took, sent, led, rested, idled, waited as waited_now, stopped, ended, over, overtaken}
use Rattle.golog_team.specs.Linked.{commanded, exo_of, posted, is_sense, texts, Begins, WaitsAt, BothWaitAt, HasEnded}
use Rattle.golog_team.specs.Keeping.{heard_in, has_stranger, CameToEnd, IsClosedFor, ClosedSo, IsOver, RestedSo, WaitedSo, StillSo, MayTeam, Keeps}
use Rattle.golog_team.proofs.Rooms.{nothing, no-action}
use Rattle.golog_team.proofs.NoteLists.{any-there, none-left, none-right, none-both, sends-append, ends-append, foreign-sends, foreign-ends, SendsAlone, foreign-alone, at-the-end, where-it-stands, StandsLeft, StandsRight, waited-append, news-said, said, Said, said-with}
use Rattle.golog_team.proofs.JournalGrown.{none-closed, close-shuts, posted-more, posted-same, senseless-more, rested-more, commanded-more, commanded-same, waited-longer, open-still, rest-still, no-exo, no-sense, no-rest, ready-still, closed-still}
use Rattle.golog_team.proofs.Matched.{no-sensing, awake, all-heard}
use Rattle.golog_team.proofs.Further.{heard-append, begins-further, rested-further, over-further, stranger-further, closed-further, waited-with-more, waited-further, still-further, reads-keep}
use Rattle.golog_team.proofs.Acting.{K, shuts, plainly, all-sent, none-yet, lists, loud, next-of, none-of-open, by-item}
use Rattle.golog_team.proofs.TakingUp.{took-keep}
use Rattle.golog_team.proofs.Saying.{waited-keep, rested-keep, stopped-keep, ended-keep, overtaken-keep}

module _ (agent other : Agent) (side : ℕ) (waits : Journal → Bool) (may : MayTeam agent other side waits) (old : Station) (k : K agent other side waits old) where
  read-sends : old.unread ≡ [] → sends side old.told ≡ take old.taken (commanded agent old.journal)
  read-sends read = ap (sends side) (sym (append-nil old.told) ∙ ap (λ l. old.told ++ l) (sym read)) ∙ k.sent

  -- it sends a command
  module _ (c : Command) (more : Notes) (read : old.unread ≡ []) (next : untaken agent other side waits old ≡ Some c) (foreign : list_any (is_own side) more ≡ false) where
    its : (is_open 0 old.journal ≡ true) × (slice_get (commands agent 0 old.journal) old.taken ≡ Some c)
    its = next-of agent other side waits may old c next

    less : old.taken < length (commanded agent old.journal)
    less =
        let w = slice_get_within (commands agent 0 old.journal) old.taken c its.1 in
        let e = length-map (commands agent 0 old.journal) (λ (c : Command). c.action) in
        omega (arith, w, e)

    its_own : sends side (put_by side (Send c.action) ∷ []) ≡ c.action ∷ []
    its_own = ap (λ b. cons_option (if b then Some c.action else None) []) (eq-eqb side side refl)

    its_end : ends side (put_by side (Send c.action) ∷ []) ≡ 0
    its_end = ap (λ b. 0 + (if b then 1 else 0)) (nothing (side == side))

    all-sends : sends side (old.told ++ (more ++ put_by side (Send c.action) ∷ [])) ≡ take (old.taken + 1) (commanded agent old.journal)
    all-sends =
        sends-append side old.told (more ++ put_by side (Send c.action) ∷ [])
        ∙ ap (λ l. sends side old.told ++ l)
        (sends-append side more (put_by side (Send c.action) ∷ []) ∙ ap (λ l. l ++ sends side (put_by side (Send c.action) ∷ [])) (foreign-sends side more foreign) ∙ its_own)
        ∙ ap (λ l. l ++ c.action ∷ []) (read-sends read)
        ∙ sym (take-next (commanded agent old.journal) old.taken c.action (slice_get-map (λ (x : Command). x.action) (commands agent 0 old.journal) old.taken ∙ ap (λ o. option_map (λ (x : Command). x.action) o) its.1))

    abbrev own_other : SideNote → Bool
    own_other = λ x. is_own side x && not (is_send x.note)

    pub sent-keep : K agent other side waits (station old.told (more ++ put_by side (Send c.action) ∷ []) old.journal (old.taken + 1))
    sent-keep = record {
      lawful = k.lawful;
      few = let l = less in omega (arith, l);
      ready = λ o. ready-next agent old.journal 0 old.taken k.lawful (k.ready o) c its.1 (no-sensing agent may.matched.shape c.action (stands agent 0 old.journal old.taken c its.1).carried);
      sent = all-sends;
      came = k.came;
      all_came = k.all_came;
      closed = λ reason count there. none-closed old.journal reason count its.0 there;
      senseless = k.senseless;
      unread_sends = none-both own_other more (put_by side (Send c.action) ∷ []) (foreign-alone side more foreign) (or_from ((side == side) && false) false (nothing (side == side)) refl);
      waited_so = k.waited_so;
      rested_so = k.rested_so;
      still = λ n says goes o rest all. absurd (
          let a = ap (λ (l : List ℕ). length l) (read-sends read) in
          let l = less in
          let b = length-take-le old.taken (commanded agent old.journal) (omega (arith, l)) in
          omega (arith, a, b, l, all));
      over = inl (
          let a = ends-append side old.told (more ++ put_by side (Send c.action) ∷ []) in
          let b = ends-append side more (put_by side (Send c.action) ∷ []) in
          let d = foreign-ends side more foreign in
          let e = its_end in
          let f = ap (ends side) (sym (append-nil old.told) ∙ ap (λ l. old.told ++ l) (sym read)) ∙ none-yet agent other side waits old.told old.unread old.journal old.taken k its.0 in
          omega (arith, a, b, d, e, f));
    }

  -- its program goes on
  module _ (e : Entry) (clear : IsClear agent other side waits old) (goes : has_end old.journal ≡ false) (of_program : is_of_program e ≡ true)
      (list : IsBoardList agent (old.journal ++ e ∷ [])) (waiting_ends : waits old.journal ≡ true → is_end e ≡ true) where
    abbrev after : Journal
    after = old.journal ++ e ∷ []

    more-few : old.taken ≤ length (commanded agent after)
    more-few =
        let a = ap (λ (l : List ℕ). length l) (commanded-more agent old.journal e) in
        let b = length-append (commanded agent old.journal) (map (λ (c : Command). c.action) (new_command agent old.journal e 0)) in
        let f = k.few in
        omega (arith, a, b, f)

    no-end : (ends side (old.told ++ []) ≡ 0)
    no-end = ap (λ l. ends side (old.told ++ l)) (sym clear.all_read) ∙ by k.over
      where
        by : (ends side (seen_at old) ≡ 0) ⊎ IsOver side (seen_at old) old.journal → ends side (seen_at old) ≡ 0
        by (inl none) = none
        by (inr o) = absurd (let f = o.finished in let h = sym goes ∙ f in cc)

    -- what it has said is still so: an entry that is no command came, so the program did not wait
    said-still : StillSo agent other side waits old.told after
    said-still n says goes_on still loud_now all = by e of_program waiting_ends refl
      where
        -- where the entry is no command
        unmoved : new_command agent old.journal e 0 ≡ [] → n ≡ length old.journal
        unmoved none =
            k.still n says goes (sym (open-still agent old.journal e of_program) ∙ still) (sym (rest-still agent old.journal e of_program none) ∙ loud_now)
            (all ∙ ap (λ (l : List ℕ). length l) (commanded-same agent old.journal e none))

        -- it waited
        waited_there : n ≡ length old.journal → waits old.journal ≡ true
        waited_there here =
            let s = said side n old.told says in
            let w = k.waited_so s.before s.later n s.stands in
            sym (ap waits (ap (λ m. take m old.journal) here ∙ take_all (length old.journal) old.journal (omega arith))) ∙ w.waiting

        no-more : new_command agent old.journal e 0 ≡ [] → is_end e ≡ false → n ≡ length after
        no-more none no_end = absurd (let h = waiting_ends (waited_there (unmoved none)) in let j = sym h ∙ no_end in cc)

        by-command : (a : ℕ) (b : Bool) → is_carried_by agent 0 a ≡ b → Do a ≡ e → n ≡ length after
        by-command a false is same =
            no-more (ap (λ x. new_command agent old.journal x 0) (sym same) ∙ ap (λ t. option_to_list (if t then Some (record { place = length old.journal; action = a }) else None)) is)
            (ap is_end (sym same))
        by-command a true is same = absurd (
            let one : new_command agent old.journal e 0 ≡ record { place = length old.journal; action = a } ∷ [] =
            ap (λ x. new_command agent old.journal x 0) (sym same) ∙ ap (λ t. option_to_list (if t then Some (record { place = length old.journal; action = a }) else None)) is in
            let c = ap (λ (l : List ℕ). length l) (commanded-more agent old.journal e ∙ ap (λ cs. commanded agent old.journal ++ map (λ (c : Command). c.action) cs) one) in
            let d = length-append (commanded agent old.journal) (a ∷ []) in
            let f = ap (λ (l : List ℕ). length l) (read-sends clear.all_read) in
            let few = k.few in
            let g = length-take-le old.taken (commanded agent old.journal) few in
            omega (arith, c, d, f, g, few, all))

        by : (x : Entry) → is_of_program x ≡ true → (waits old.journal ≡ true → is_end x ≡ true) → x ≡ e → n ≡ length after
        by (Do a) own w same = by-command a (is_carried_by agent 0 a) refl same
        by Test own w same = no-more (ap (λ x. new_command agent old.journal x 0) (sym same)) (ap is_end (sym same))
        by (End a) own w same = absurd (
            let h : has_end after ≡ true = (entries_grow old.journal e).end ∙ or_right (has_end old.journal) (is_end e) (ap is_end (sym same)) in
            let j = sym h ∙ goes_on in cc)
        by (Exo p a) own w same = absurd (cc)
        by (Sense p at f v) own w same = absurd (cc)
        by (Rest p t) own w same = absurd (cc)
        by (Close p r t) own w same = absurd (cc)

    pub led-keep : K agent other side waits (station old.told [] after old.taken)
    led-keep = record {
      lawful = list;
      few = more-few;
      ready = λ o. ready-still agent old.journal e of_program old.taken k.lawful (k.ready (sym (open-still agent old.journal e of_program) ∙ o));
      sent =
          ap (λ l. sends side (old.told ++ l)) (sym clear.all_read) ∙ k.sent
          ∙ sym (ap (take old.taken) (commanded-more agent old.journal e) ∙ take-append-le old.taken (commanded agent old.journal) (map (λ (c : Command). c.action) (new_command agent old.journal e 0)) k.few);
      came = subst (λ l. Begins (texts agent l) (heard_in other side old.told)) (sym (posted-same old.journal e (no-exo agent old.journal e of_program))) k.came;
      all_came = λ o. ap (texts agent) (posted-same old.journal e (no-exo agent old.journal e of_program)) ∙ k.all_came (sym (open-still agent old.journal e of_program) ∙ o);
      closed = closed-still agent old.journal e of_program other side old.told old.taken k.closed;
      senseless = senseless-more old.journal e (no-sense agent old.journal e of_program) k.senseless;
      unread_sends = refl;
      waited_so = waited-longer agent old.journal e other side waits old.told k.waited_so;
      rested_so = rested-more old.journal e side old.told (no-rest agent old.journal e of_program) k.rested_so;
      still = said-still;
      over = inl no-end;
    }

  abbrev Now : Station → Type 0
  Now new = K agent other side waits new

  -- whatever it does
  pub acts-keep : (new : Station) (did : Did) → Acts agent other side waits old new did → Now new
  acts-keep new _ (took n later is news now) = subst Now (sym now) (took-keep agent other side waits may old n later k is news)
  acts-keep new _ (sent c more read next foreign now) = subst Now (sym now) (sent-keep c more read next foreign)
  acts-keep new _ (led e clear goes own list w now) = subst Now (sym now) (led-keep e clear goes own list w)
  acts-keep new _ (rested w both now) = subst Now (sym now) (rested-keep agent other side waits may old k w both)
  acts-keep new _ (idled w one both now) = subst Now (sym now) k
  acts-keep new _ (waited_now w unsaid now) = subst Now (sym now) (waited-keep agent other side waits may old k w)
  acts-keep new _ (stopped clear ends_now still now) = subst Now (sym now) (stopped-keep agent other side waits may old k clear ends_now still)
  acts-keep new _ (ended d none now) = subst Now (sym now) (ended-keep agent other side waits may old k d none)
  acts-keep new _ (over d some now) = subst Now (sym now) k
  acts-keep new _ (overtaken more some foreign say now) = subst Now (sym now) (overtaken-keep agent other side waits may old k (read say) more foreign)
    where
      read : IsToSay agent other side waits old → old.unread ≡ []
      read (inl w) = w.0.clear.all_read
      read (inr d) = d.0.clear.all_read

-- each step keeps all
pub steps-keep : (agent other : Agent) (side : ℕ) (waits : Journal → Bool) → MayTeam agent other side waits → (old new : Station) (did : Did)
    → Keeps agent other side waits old → Steps agent other side waits old new did → Keeps agent other side waits new
steps-keep agent other side waits may old new did k s =
    acts-keep agent other side waits may s.read (reads-keep agent other side waits old s.read k s.reads) new did s.acts

-- and so does a side that has done nothing yet
pub keeps-first : (agent other : Agent) (side : ℕ) (waits : Journal → Bool) → IsBoardList agent [] → IsReady agent [] 0 0 → Keeps agent other side waits (station [] [] [] 0)
keeps-first agent other side waits list ready = record {
  lawful = list;
  few = omega arith;
  ready = λ o. ready;
  sent = refl;
  came = ([], refl);
  all_came = λ o. refl;
  closed = λ reason taken there. absurd (let w = there.1 in omega (arith, w));
  senseless = refl;
  unread_sends = refl;
  waited_so = λ before later n is. nowhere (put_by side (Waiting n)) before later is;
  rested_so = λ before later n is. nowhere (Rest 0 n) before later is;
  still = λ n says goes o rest all. absurd (cc);
  over = inl refl;
}
  where
    nowhere : {A P : Type 0} (x : A) (before later : List A) → [] ≡ before ++ x ∷ later → P
    nowhere x [] later is = absurd (cc)
    nowhere x (b ∷ before) later is = absurd (cc)
