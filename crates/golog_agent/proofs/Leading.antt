-- Where no one else adds entries, a turn is that of the program in a round.
use Rattle.std.proofs.Common.{◌≡◌, ℕ, ◌<◌, ◌≤◌, Bool, true, false, not, ◌&&◌, ◌||◌, if◌then◌else◌, ◌⊎◌, inl, inr, List, [], ◌∷◌, ◌++◌, Option, Some, None, refl, sym, ap, ◌∙◌, subst}
use Rattle.std.specs.Prelude.{is_none, nat_le, nat_lt}
use Rattle.std.specs.List.{list_any}
use Rattle.std.specs.Option.{option_map_or}
use Rattle.std.proofs.lemmas.Bool.{and_parts, eqb-true, ltb-true, leb-true, lt-leb, le-ltb, not-true}
use Rattle.std.proofs.lemmas.List.{append-nil}
use Rattle.golog_tree.specs.declared.agent.Agent.{Agent}
use Rattle.golog_tree.specs.declared.prog.Prog.{Prog}
use Rattle.golog_tree.specs.declared.prog.Label.{Label}
use Rattle.golog_tree.specs.declared.prog.Label.TheVariants.{Quiet, Do as Doing}
use Rattle.golog_tree.specs.Nest.{nest}
use Rattle.golog_semantics.specs.declared.Mode.TheVariants.{Must, May, Near}
use Rattle.golog_semantics.specs.declared.search.Move.{Move}
use Rattle.golog_semantics.specs.declared.journal.Entry.{Entry}
use Rattle.golog_semantics.specs.declared.journal.Entry.TheVariants.{End}
use Rattle.golog_semantics.specs.declared.journal.Answer.{Answer}
use Rattle.golog_semantics.specs.declared.journal.Answer.TheVariants as answer
use Rattle.golog_semantics.specs.Ways.{is_empty}
use Rattle.golog_semantics.specs.Search.{final, nest_limit}
use Rattle.golog_semantics.specs.Blocks.{moves}
use Rattle.golog_semantics.specs.Same.{same_label}
use Rattle.golog_semantics.specs.Journal.{Journal, count, devices, has_end, is_full, is_open, is_quiet, is_settled, is_waiting_for, lacks_results, limit, may_be_answered}
use Rattle.golog_semantics.specs.Progress.{values_after, left_after}
use Rattle.golog_semantics.specs.Answer.{answer_after, first_that_fits, is_deep, is_unanswered}
use Rattle.golog_semantics.specs.Inline.{entry_for, lead, step_by}
use Rattle.golog_semantics.specs.Online.{IsOnlineSoFar, is_first, keeps_step, may_step}
use Rattle.golog_semantics.specs.InlineText.{report_of}
use Rattle.golog_journal.specs.Growing.{Sight}
use Rattle.golog_lead.specs.Short.{EndsShort, IsShort}
use Rattle.golog_lead.specs.declared.stepped.Stepped.{Stepped}
use Rattle.golog_lead.specs.declared.stepped.Stepped.TheVariants.{Step, Waiting, Ended}
use Rattle.golog_agent.specs.Leading.{AddsOneAlone, LeadsAlone}
use Rattle.golog_lead.specs.Keeping.{KeepsRules}
use Rattle.golog_lead.specs.Run.{is_step_entry}
use Rattle.golog_agent.specs.Laws.{lead_stays}
use Rattle.golog_lead.specs.Waiting.{takes_no_step, waits}
use Rattle.golog_lead.specs.Courses.{Course}
use Rattle.golog_lead.specs.Seeing.{CommitsStep, EndStood}
use Rattle.golog_agent.specs.Turns.{CommitsEnd, MayAnswer, StillWaits, TurnIs}
use Rattle.golog_lead.proofs.StepEntries.{each-step}
use Rattle.golog_agent.proofs.Awaiting.{any-and}
use Rattle.golog_agent.proofs.StepsKept.{keeps_its_step, step-unended}
use Rattle.golog_lead.proofs.BegunRuns.{keeps-rules}
use Rattle.golog_lead.proofs.Turning.{alone-grows, alone-stays}

-- ---- the answer where a step may be taken

none-fits : (full unanswered settled comes ends deep none : Bool) (rest : List (Bool × Option Answer)) (last : Option Answer)
    → full ≡ false → unanswered ≡ false → settled ≡ true → ends ≡ false → deep ≡ false → none ≡ false
    → first_that_fits
    ((full, Some answer.Full) ∷ (unanswered, Some answer.Unanswered) ∷ (not settled, None) ∷ (comes, None) ∷ (ends, Some answer.Done) ∷ (deep, Some answer.Deep) ∷ (not none, None) ∷ rest)
    last ≡ None
none-fits false false true true ends deep none rest last f u s e d n = refl
none-fits false false true false false false false rest last f u s e d n = refl
none-fits true unanswered settled comes ends deep none rest last f u s e d n = absurd (cc)
none-fits false true settled comes ends deep none rest last f u s e d n = absurd (cc)
none-fits false false false comes ends deep none rest last f u s e d n = absurd (cc)
none-fits false false true false true deep none rest last f u s e d n = absurd (cc)
none-fits false false true false false true none rest last f u s e d n = absurd (cc)
none-fits false false true false false false true rest last f u s e d n = absurd (cc)

-- a program that waits for a result, or that may end, takes no step
no-step : (settled ends room first : Bool) → (not settled || ends) ≡ true → (settled && not ends && room && first) ≡ false
no-step true true room first h = refl
no-step true false room first h = absurd (cc)
no-step false ends room first h = refl

label-eq : (l k : Label) → same_label l k ≡ true → l ≡ k
label-eq Quiet Quiet e = refl
label-eq Quiet (Doing b) e = absurd (cc)
label-eq (Doing a) Quiet e = absurd (cc)
label-eq (Doing a) (Doing b) e = ap Doing (eqb-true a b e)

-- the first of these steps has this label, and what it leaves is not too deep
record Begins (l : Label) (ms : List Move) : Type 0 where
  first : Move
  others : List Move
  is : ms ≡ first ∷ others
  label : l ≡ first.label
  nests : nest first.left ≤ nest_limit

module _ (agent : Agent) (journal : Journal) where
  abbrev V : List ℕ
  V = values_after agent journal

  abbrev P : Prog
  P = left_after agent journal

  abbrev M : List Move
  M = moves agent V Must P

  -- a step that may be taken
  record Takes (l : Label) : Type 0 where
    settled : is_settled agent journal ≡ true
    not_final : final agent V Must P ≡ false
    room : count journal < limit
    begins : Begins l M

  begins-so : (l : Label) (ms : List Move) → is_first agent journal l ms ≡ true → Begins l ms
  begins-so l [] h = absurd (cc)
  begins-so l (m ∷ ms) h =
      let p = and_parts (same_label l m.label) (nat_le (nest m.left) nest_limit) h in
      record { first = m; others = ms; is = refl; label = label-eq l m.label p.0; nests = leb-true (nest m.left) nest_limit p.1 }

  takes-so : (l : Label) → may_step agent journal V P l ≡ true → Takes l
  takes-so l h =
      let four = and_parts (is_settled agent journal && not (final agent V Must P) && nat_lt (count journal) limit) (is_first agent journal l M) h in
      let three = and_parts (is_settled agent journal && not (final agent V Must P)) (nat_lt (count journal) limit) four.0 in
      let two = and_parts (is_settled agent journal) (not (final agent V Must P)) three.0 in
      record {
        settled = two.0;
        not_final = not-true (final agent V Must P) two.1;
        room = ltb-true (count journal) limit three.1;
        begins = begins-so l M four.1;
      }

  answered : is_settled agent journal ≡ true → is_unanswered agent journal ≡ false
  answered h = any-and (λ d. not (is_open d journal)) (is_waiting_for agent journal) (devices agent) (not-true (list_any (is_waiting_for agent journal) (devices agent)) h)

  no-answer : (l : Label) → Takes l → answer_after agent journal ≡ None
  unfolding answer_after
  no-answer l t =
      let rest : List (Bool × Option Answer) =
      (not (is_quiet agent journal), None)
      ∷ (lacks_results agent journal, Some answer.Unanswered)
      ∷ (not (is_empty (moves agent V Near P)) || final agent V Near P, Some answer.Unknown)
      ∷ (not (is_empty (moves agent V May P)), Some answer.Depth)
      ∷ [] in
      none-fits (is_full journal) (is_unanswered agent journal) (is_settled agent journal) (final agent V Must P && may_be_answered agent journal) (final agent V Must P) (is_deep M) (is_empty M) rest (Some answer.Stuck)
      (lt-leb limit (count journal) t.room) (answered t.settled) t.settled t.not_final
      (ap is_deep t.begins.is ∙ le-ltb nest_limit (nest t.begins.first.left) t.begins.nests) (ap is_empty t.begins.is)

  -- ---- the program's turn in a round

  lead-goes : (o : Option Answer) → has_end journal ≡ false → answer_after agent journal ≡ o → lead agent journal ≡ option_map_or (λ a. journal ++ End a ∷ []) o (step_by agent journal M)
  lead-goes o h e =
      ap (λ b. if b then journal else option_map_or (λ a. journal ++ End a ∷ []) (answer_after agent journal) (step_by agent journal M)) h
      ∙ ap (λ k. option_map_or (λ a. journal ++ End a ∷ []) k (step_by agent journal M)) e

  step-taken : (l : Label) → may_step agent journal V P l ≡ true → (t : Takes l) → step_by agent journal M ≡ journal ++ entry_for l ∷ []
  step-taken l h t =
      ap (step_by agent journal) t.begins.is
      ∙ ap (λ k. if may_step agent journal V P k then journal ++ entry_for k ∷ [] else journal) (sym t.begins.label)
      ∙ ap (λ b. if b then journal ++ entry_for l ∷ [] else journal) h

  label-leads : (l : Label) → has_end journal ≡ false → may_step agent journal V P l ≡ true → lead agent journal ≡ journal ++ entry_for l ∷ []
  label-leads l goes h = lead-goes None goes (no-answer l (takes-so l h)) ∙ step-taken l h (takes-so l h)

  step-kept : (e : Entry) → is_step_entry e ≡ true → has_end journal ≡ false → keeps_step agent journal V P e ≡ true → lead agent journal ≡ journal ++ e ∷ []
  step-kept =
      each-step (λ e. has_end journal ≡ false → keeps_step agent journal V P e ≡ true → lead agent journal ≡ journal ++ e ∷ [])
      (λ action. label-leads (Doing action)) (label-leads Quiet)

  -- a step that keeps the rules is the one that is taken
  step-leads : (e : Entry) → is_step_entry e ≡ true → KeepsRules agent journal e → lead agent journal ≡ journal ++ e ∷ []
  step-leads e is h = step-kept e is (step-unended agent journal e is h) (keeps_its_step agent journal e h)

  none-so : (o : Option Answer) → is_none o ≡ true → o ≡ None
  none-so None h = refl
  none-so (Some a) h = absurd (cc)

  not-taken : (ms : List Move) → (not (is_settled agent journal) || (is_empty ms || final agent V Must P)) ≡ true → step_by agent journal ms ≡ journal
  not-taken [] h = refl
  not-taken (m ∷ ms) h =
      ap (λ b. if b then journal ++ entry_for m.label ∷ [] else journal)
      (no-step (is_settled agent journal) (final agent V Must P) (nat_lt (count journal) limit) (is_first agent journal m.label M) h)

  -- a program that waits adds nothing
  waiting-leads : has_end journal ≡ false → waits agent journal ≡ true → lead agent journal ≡ journal
  unfolding waits
  waiting-leads goes w =
      let parts = and_parts (not (is_quiet agent journal) && is_none (answer_after agent journal)) (not (is_settled agent journal) || takes_no_step agent journal) w in
      let none = none-so (answer_after agent journal) (and_parts (not (is_quiet agent journal)) (is_none (answer_after agent journal)) parts.0).1 in
      lead-goes None goes none ∙ not-taken M parts.1

-- ---- where no one else adds entries

module _ (old new : Sight) (alone : old.alone ≡ true) where
  answered-here : (agent : Agent) (a : Answer) (others : Journal) → agent ≡ old.agent → others ≡ [] → MayAnswer old.agent (old.seen ++ others) a → MayAnswer agent old.seen a
  answered-here agent a others same none may =
      subst (λ g. MayAnswer g old.seen a) (sym same)
      (subst (λ seen. MayAnswer old.agent seen a) (ap (λ xs. old.seen ++ xs) none ∙ append-nil old.seen) may)

  by-end : (agent : Agent) (a : Answer) → has_end old.seen ≡ false → MayAnswer agent old.seen a → new.seen ≡ old.seen ++ End a ∷ []
      → (new.seen ≡ lead agent old.seen) ⊎ EndsShort IsShort old.seen new.seen
  by-end agent a goes (inl is) e = inr (record { answer = a; short = inl is; is = e })
  by-end agent a goes (inr (inl lacks)) e = inr (record { answer = a; short = inr lacks.is; is = e })
  by-end agent a goes (inr (inr is)) e = inl (e ∙ sym (lead-goes agent old.seen (Some a) goes is))

  module _ (agent : Agent) (same : agent ≡ old.agent) where
    by-step : CommitsStep old new → IsOnlineSoFar agent (report_of agent new.seen) → new.seen ≡ lead agent old.seen
    by-step t online =
        let one = alone-grows old new (t.entry ∷ []) t.follows alone in
        one ∙ sym (step-leads agent old.seen t.entry t.is_step (keeps-rules agent old.seen t.entry (subst (λ seen. IsOnlineSoFar agent (report_of agent seen)) one online)))

    by-waiting : StillWaits old new → new.seen ≡ lead agent old.seen
    by-waiting t =
        let none = alone-stays old new t.follows alone in
        let w = ap (λ g. waits g old.seen) (same ∙ sym t.follows.same_agent) ∙ ap (waits new.agent) (sym none) ∙ t.is_waiting in
        none ∙ sym (waiting-leads agent old.seen (ap has_end (sym none) ∙ t.goes_on) w)

    by-ended : (a : Answer) → EndStood old new ⊎ CommitsEnd a old new → (new.seen ≡ lead agent old.seen) ⊎ EndsShort IsShort old.seen new.seen
    by-ended a (inl e) = inl (alone-stays old new e.follows alone ∙ sym (lead_stays agent old.seen e.ended))
    by-ended a (inr e) =
        by-end agent a e.goes_on (answered-here agent a e.follows.others same (e.follows.are_others.none alone) e.answered)
        (alone-grows old new (End a ∷ []) e.follows alone)

    by-turn : (s : Stepped) → TurnIs old new s → IsOnlineSoFar agent (report_of agent new.seen) → (new.seen ≡ lead agent old.seen) ⊎ EndsShort IsShort old.seen new.seen
    by-turn Step t online = inl (by-step t online)
    by-turn Waiting t online = inl (by-waiting t)
    by-turn (Ended a) t online = by-ended a t.how

pub leads-alone : LeadsAlone
leads-alone agent old new stepped same alone turn online = by-turn old new alone agent same stepped turn online

-- so of a lead that has copied all
pub alone-so : (first later : Course) (old new : Sight) (stepped : Stepped) → first.agent ≡ old.agent → later.agent ≡ first.agent → later.list ≡ new.seen
    → IsOnlineSoFar later.agent (report_of later.agent later.list) → TurnIs old new stepped → old.alone ≡ true
    → (new.seen ≡ lead first.agent old.seen) ⊎ EndsShort IsShort old.seen new.seen
alone-so first later old new stepped agent same whole online turn alone =
    leads-alone first.agent old new stepped agent alone turn
    (subst (λ g. IsOnlineSoFar g (report_of g new.seen)) same (subst (λ seen. IsOnlineSoFar later.agent (report_of later.agent seen)) whole online))

pub adds-one : AddsOneAlone
adds-one old new alone = record {
  step = λ t. record { entry = t.entry; is_step = t.is_step; one = alone-grows old new (t.entry ∷ []) t.follows alone };
  waiting = λ t. alone-stays old new t.follows alone;
  stood = λ t. alone-stays old new t.follows alone;
  ended = λ a t. alone-grows old new (End a ∷ []) t.follows alone;
}
