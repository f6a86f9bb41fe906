-- The entries of an online execution are so in each world that agrees with those before them.
use Rattle.std.proofs.Common.{◌≡◌, inl, inr, ◌⊎◌, ℕ, zero, suc, Bool, true, false, ◌&&◌, ◌||◌, List, [], ◌∷◌, ◌++◌, map, Option, Some, None, refl, sym, ap, ◌∙◌, subst}
use Rattle.std.specs.Prelude.{fold, nat_le, nat_lt, not, slice_index, slice_set}
use Rattle.std.specs.Option.{option_map_or}
use Rattle.std.proofs.lemmas.List.{length-set}
use Rattle.golog_tree.specs.declared.agent.Agent.{Agent}
use Rattle.golog_tree.specs.declared.prog.Label.{Label}
use Rattle.golog_tree.specs.declared.prog.Prog.{Prog}
use Rattle.golog_tree.specs.declared.prog.Prog.TheVariants as prog
use Rattle.golog_tree.specs.declared.prog.Way.{Way}
use Rattle.golog_tree.specs.Nest.{nest}
use Rattle.golog_semantics.specs.declared.Mode.TheVariants.{Must, May, Near}
use Rattle.golog_semantics.specs.declared.journal.Entry.{Entry}
use Rattle.golog_semantics.specs.declared.journal.Entry.TheVariants.{Do, Test, Exo, Sense, Rest, Close, End}
use Rattle.golog_semantics.specs.declared.journal.Answer.{Answer}
use Rattle.golog_semantics.specs.declared.journal.Answer.TheVariants.{Done, Stuck, Unknown, Depth, Unanswered, Full, Deep}
use Rattle.golog_semantics.specs.declared.journal.PlacedRun.{PlacedRun}
use Rattle.golog_semantics.specs.declared.journal.Report.{Report}
use Rattle.golog_semantics.specs.declared.search.Move.{Move}
use Rattle.golog_semantics.specs.Truth.{Values, is_known}
use Rattle.golog_semantics.specs.Ways.{is_empty, way_of}
use Rattle.golog_semantics.specs.Search.{final, nest_limit}
use Rattle.golog_semantics.specs.Blocks.{moves, ways}
use Rattle.golog_semantics.specs.Same.{same_label, same_prog}
use Rattle.golog_semantics.specs.Answer.{answer_at, first_that_fits, is_deep, is_unanswered}
use Rattle.golog_semantics.specs.Certain.{CertainIsTrans, EntryIsSo, IsStuckIn, JournalIsSo, TransIsPossible}
use Rattle.golog_semantics.specs.Journal.{Journal, count, is_full, is_quiet, is_settled, lacks_results, limit, may_be_answered}
use Rattle.golog_semantics.specs.Online.{IsOnlineSoFar, Keeps, is_first, keeps_answer, label_of, may_step, same_answer}
use Rattle.golog_semantics.specs.Plain.{plain}
use Rattle.golog_semantics.specs.Progress.{after_entry, left_after, left_at, left_by, values_after}
use Rattle.golog_semantics.specs.Trans.{TransW}
use Rattle.golog_semantics.specs.WellFormed.{WellFormed}
use Rattle.golog_semantics.specs.World.{Agrees, Refines, Shows, world_after, world_entry}
use Rattle.golog_semantics.proofs.Among.{Among, among-contains, among-map, contains-among}
use Rattle.golog_semantics.proofs.BestRuns.{same_way-eq}
use Rattle.golog_semantics.proofs.LeftFits.{left_after-fits}
use Rattle.golog_semantics.proofs.ModesOrdered.{final-may_near}
use Rattle.golog_semantics.proofs.Pushed.{left_after-push}
use Rattle.golog_semantics.proofs.SameLaws.{same_prog-same}
use Rattle.golog_semantics.proofs.Tests.{and_both, and_cases, neither_second}
use Rattle.golog_certain.proofs.Members.{not_empty}
use Rattle.golog_certain.proofs.StepsSo.{certain_is_trans, trans_is_possible}
use Rattle.golog_certain.proofs.ValuesStay.{after_do-stays}

-- a value that is put in stands there, or all is as it was
set_cases : (values : Values) (fluent value f : ℕ)
    → ((f ≡ fluent) × (slice_index (slice_set values fluent value) f ≡ value)) ⊎ (slice_index (slice_set values fluent value) f ≡ slice_index values f)
set_cases [] fluent value f = inr refl
set_cases (v ∷ values) zero value zero = inl (refl, refl)
set_cases (v ∷ values) zero value (suc f) = inr refl
set_cases (v ∷ values) (suc fluent) value zero = inr refl
set_cases (v ∷ values) (suc fluent) value (suc f) = elim (set_cases values fluent value f) [ inl a ↦ inl (ap suc a.0, a.1) | inr e ↦ inr e ]

module _ (agent : Agent) where
  -- a result that the world shows
  pub set_refines : (values world : Values) → Refines values world → (fluent value : ℕ) → slice_index world fluent ≡ value → Refines (slice_set values fluent value) world
  set_refines values world r fluent value shown = record {
    whole = r.whole ∙ sym (length-set values fluent value);
    same = λ f known. at f known (set_cases values fluent value f);
  }
    where
      at : (f : ℕ) → is_known (slice_index (slice_set values fluent value) f) ≡ true
          → ((f ≡ fluent) × (slice_index (slice_set values fluent value) f ≡ value)) ⊎ (slice_index (slice_set values fluent value) f ≡ slice_index values f)
          → slice_index world f ≡ slice_index (slice_set values fluent value) f
      at f known (inl a) = ap (slice_index world) a.0 ∙ shown ∙ sym a.1
      at f known (inr e) = r.same f (sym (ap is_known e) ∙ known) ∙ sym e

  -- what is known after an entry is so in a world that agrees with it
  entry_refines : (values world : Values) → Refines values world → (e : Entry) → Shows agent world e → Refines (after_entry agent values e) (world_entry agent world e)
  entry_refines values world r (Do action) s = after_do-stays agent values world r action
  entry_refines values world r Test s = r
  entry_refines values world r (Exo poster action) s = after_do-stays agent values world r action
  entry_refines values world r (Sense poster place fluent value) s = set_refines values world r fluent value s
  entry_refines values world r (Rest poster taken) s = r
  entry_refines values world r (Close poster reason taken) s = r
  entry_refines values world r (End answer) s = r

  pub entries_refine : (values world : Values) → Refines values world → (journal : Journal) → Agrees agent world journal
      → Refines (fold (after_entry agent) values journal) (fold (world_entry agent) world journal)
  entries_refine values world r [] h = r
  entries_refine values world r (e ∷ journal) h = entries_refine (after_entry agent values e) (world_entry agent world e) (entry_refines values world r e h.0) journal h.1

label-eq : (l k : Label) → same_label l k ≡ true → l ≡ k
label-eq l k h =
    ap (λ (w : Way). w.label)
    (same_way-eq (record { label = l; left = prog.Nil }) (record { label = k; left = prog.Nil }) (and_both (same_label l k) (same_prog prog.Nil prog.Nil) h (same_prog-same prog.Nil)))

-- the answer of a program, by the tests that are asked for it
abbrev answer_by : (full unanswered unsettled comes final deep steps unquiet lacks near may : Bool) → Option Answer
answer_by full unanswered unsettled comes final deep steps unquiet lacks near may =
    first_that_fits
    ((full, Some Full) ∷ (unanswered, Some Unanswered) ∷ (unsettled, None) ∷ (comes, None) ∷ (final, Some Done) ∷ (deep, Some Deep)
    ∷ (steps, None) ∷ (unquiet, None) ∷ (lacks, Some Unanswered) ∷ (near, Some Unknown) ∷ (may, Some Depth) ∷ [])
    (Some Stuck)

-- done tells of a certain end, and stuck that no end is near and no step possible
told : (full unanswered unsettled comes final deep steps unquiet lacks near may : Bool)
    → (same_answer (answer_by full unanswered unsettled comes final deep steps unquiet lacks near may) Done ≡ true → final ≡ true)
    × (same_answer (answer_by full unanswered unsettled comes final deep steps unquiet lacks near may) Stuck ≡ true → (near ≡ false) × (may ≡ false))
told true u s c f d m q l n y = ((λ k. absurd (cc)), (λ k. absurd (cc)))
told false true s c f d m q l n y = ((λ k. absurd (cc)), (λ k. absurd (cc)))
told false false true c f d m q l n y = ((λ k. absurd (cc)), (λ k. absurd (cc)))
told false false false true f d m q l n y = ((λ k. absurd (cc)), (λ k. absurd (cc)))
told false false false false true d m q l n y = ((λ k. refl), (λ k. absurd (cc)))
told false false false false false true m q l n y = ((λ k. absurd (cc)), (λ k. absurd (cc)))
told false false false false false false true q l n y = ((λ k. absurd (cc)), (λ k. absurd (cc)))
told false false false false false false false true l n y = ((λ k. absurd (cc)), (λ k. absurd (cc)))
told false false false false false false false false true n y = ((λ k. absurd (cc)), (λ k. absurd (cc)))
told false false false false false false false false false true y = ((λ k. absurd (cc)), (λ k. absurd (cc)))
told false false false false false false false false false false true = ((λ k. absurd (cc)), (λ k. absurd (cc)))
told false false false false false false false false false false false = ((λ k. absurd (cc)), (λ k. (refl, refl)))

module _ (agent : Agent) (w : WellFormed agent) (before : Journal) (world : Values) (r : Refines (values_after agent before) world) where
  abbrev values : Values
  values = values_after agent before

  abbrev p : Prog
  p = left_after agent before

  certain : CertainIsTrans agent values world p
  certain = certain_is_trans agent w values world r p (left_after-fits agent w before)

  possible : TransIsPossible agent values world p
  possible = trans_is_possible agent w values world r p (left_after-fits agent w before)

  first_so : (label : Label) (steps : List Move) → moves agent values Must p ≡ steps → is_first agent before label steps ≡ true → TransW agent world (plain p) label (plain (left_by agent p steps))
  first_so label [] e h = absurd (cc)
  first_so label (m ∷ steps) e h =
      let k = and_cases (same_label label m.label) (nat_le (nest m.left) nest_limit) h in
      let a = contains-among (ways agent values Must p) (way_of m) (subst (λ us. Among (map way_of us) (way_of m)) (sym e) (inl refl)) in
      subst (λ l. TransW agent world (plain p) l (plain m.left)) (sym (label-eq label m.label k.0)) (certain.steps (way_of m) a)

  -- a Do or a Test takes the first certain step
  left_taken : (e : Entry) (label : Label) → label_of e ≡ Some label → left_at agent values p e ≡ left_by agent p (moves agent values Must p)
  left_taken (Do action) label h = refl
  left_taken Test label h = refl
  left_taken _ label h = absurd (cc)

  step_so : (e : Entry) (label : Label) → label_of e ≡ Some label → option_map_or (may_step agent before values p) (label_of e) true ≡ true
      → TransW agent world (plain p) label (plain (left_after agent (before ++ e ∷ [])))
  step_so e label h keeps =
      let may : may_step agent before values p label ≡ true = sym (ap (λ o. option_map_or (may_step agent before values p) o true) h) ∙ keeps in
      let k = and_cases (is_settled agent before && not (final agent values Must p) && nat_lt (count before) limit) (is_first agent before label (moves agent values Must p)) may in
      subst (λ left. TransW agent world (plain p) label (plain left)) (sym (left_after-push agent before e ∙ left_taken e label h))
      (first_so label (moves agent values Must p) refl k.1)

  answers_tell : (same_answer (answer_at agent before values p) Done ≡ true → final agent values Must p ≡ true)
      × (same_answer (answer_at agent before values p) Stuck ≡ true
      → ((not (is_empty (moves agent values Near p)) || final agent values Near p) ≡ false) × (not (is_empty (moves agent values May p)) ≡ false))
  answers_tell =
      told (is_full before) (is_unanswered agent before) (not (is_settled agent before)) (final agent values Must p && may_be_answered agent before)
      (final agent values Must p) (is_deep (moves agent values Must p)) (not (is_empty (moves agent values Must p))) (not (is_quiet agent before))
      (lacks_results agent before) (not (is_empty (moves agent values Near p)) || final agent values Near p)
      (not (is_empty (moves agent values May p)))

  stuck_so : same_answer (answer_at agent before values p) Stuck ≡ true → IsStuckIn agent world (plain p)
  stuck_so h =
      let k = answers_tell.1 h in
      record {
        no_step = λ s.
            let m = possible.steps s.0 s.1 s.2 in
            let a = among-map way_of (moves agent values May p) m.way (among-contains (ways agent values May p) m.way m.among) in
            let some = not_empty (moves agent values May p) a.0 a.1.0 in
            let none = k.1 in
            absurd (let e = ap not some in cc);
        no_end = λ f.
            let yes = possible.ends f in
            let no = neither_second (not (is_empty (moves agent values Near p))) (final agent values Near p) k.0 in
            let e = final-may_near agent values p in
            absurd (cc);
      }

  pub entry_so : (e : Entry) (runs : List PlacedRun) → Keeps agent before runs e → EntryIsSo agent before e world
  entry_so e runs k = record {
    step = λ label h. step_so e label h k.step;
    done = λ h. certain.ends (answers_tell.0 (subst (λ z. keeps_answer agent before values p z ≡ true) h k.answer));
    stuck = λ h. stuck_so (subst (λ z. keeps_answer agent before values p z ≡ true) h k.answer);
  }

pub journal_so : (agent : Agent) → WellFormed agent → (report : Report) → IsOnlineSoFar agent report → JournalIsSo agent report.entries
journal_so agent w report h before later e start is world agrees =
    entry_so agent w before (world_after agent start before) (entries_refine agent agent.starts start world.refines before agrees) e report.runs (h.entries before e later is)
