-- The least of the first rows that fit is the least of all rows that fit, where the rows of each item stand in order.
use Rattle.std.proofs.Common.{◌≡◌, ⊎_elim, ℕ, zero, suc, ◌*◌, true, List, [], ◌∷◌, ◌++◌, map, Result, Ok, Err, refl, ap, subst, arith}
use Rattle.std.proofs.lemmas.List.Elements.{Contains-append_left, Contains-append_right, Contains-append_cases}
use Rattle.golog_draft.specs.DraftPlaces.{cond_places, start_places, poss_places, cause_places, proc_places}
use Rattle.golog_draft.specs.DraftOrder.{IsAscending, TheoryInOrder, ProgramInOrder}
use Rattle.golog_rows.specs.Reading.{Row, first, refusal_in, Reading}
use Rattle.golog_tree.specs.declared.agent.Agent.{Agent}
use Rattle.golog_tree.specs.declared.cond.Cond.{Cond}
use Rattle.golog_tree.specs.declared.draft_cond.DraftCond.{DraftCond}
use Rattle.golog_tree.specs.declared.draft.DraftTheory.{DraftTheory}
use Rattle.golog_tree.specs.declared.draft.DraftProgram.{DraftProgram}
use Rattle.golog_check.specs.declared.fault.CheckFault.{CheckFault}
use Rattle.golog_check.specs.declared.fault.CheckFault.TheVariants.{Refused, Memory}
use Rattle.golog_check.specs.Limits.{GROUND_FLUENTS, GROUND_ACTIONS}
use Rattle.golog_check.specs.DeclaredItems.{Declared, sort_item}
use Rattle.golog_check.specs.Sums.{fluent_counted, action_counted, fluent_sum, action_sum}
use Rattle.golog_check.specs.Starts.{start_in}
use Rattle.golog_check.specs.Effects.{poss_in, cause_in, senses_in}
use Rattle.golog_check.specs.Conditions.{cond_in}
use Rattle.golog_check.specs.Procs.{proc_in}
use Rattle.golog_shapes.specs.Unguarded.{all_front_refusals}
use Rattle.golog_shapes.specs.DraftBlocks.{all_block_refusals}
use Rattle.golog_check.specs.Check.{main_in, names_of, refusals_in, Checks}
use Rattle.golog_check.specs.Faults.{code_at, Answers}
use Rattle.golog_rows.specs.Order.{IsNoLater, Fits}
use Rattle.golog_rows.specs.Least.{CodeAt, IsAmong}
use Rattle.golog_check.specs.Least.{refusal_of, refusals}
use Rattle.golog_check.specs.Order.{rows_of, refused_rows, rows_in, IsLeastRow, all_rows}
use Rattle.golog_rows.proofs.Chain.{none-fits, least, chain-ordered, least_row, first_row}
use Rattle.golog_rows.proofs.LeastLaws.{no-later-same, no-later-on, alone-is}
use Rattle.golog_check.proofs.CondOrder.{cond-spans}
use Rattle.golog_check.proofs.ItemOrder.{InOrder, AreInOrder, sum-in-order, all-in-order, start-spans, poss-spans, cause-spans, senses-in-order, proc-spans, main-spans}

-- a refusal that is no later than the code at the place
abbrev pub Leads : List CodeAt → ℕ → ℕ → Type 0
Leads refusals d b = (c : ℕ) × (a : ℕ) × IsAmong refusals c a × IsNoLater c a d b

-- the refusals of some rows: each is a row that fits, and of those that fit each has a refusal that is no later
pub record Covers (refusals : List CodeAt) (rows : List Row) : Type 0 where
  pub fits : (c a : ℕ) → IsAmong refusals c a → Fits rows c a
  pub led : (d b : ℕ) → Fits rows d b → Leads refusals d b

pub covers-both : (before after : List CodeAt) (rows others : List Row) → Covers before rows → Covers after others → Covers (before ++ after) (rows ++ others)
covers-both before after rows others p q = record {
  fits = λ c a h.
      ⊎_elim (λ k. Contains-append_left rows others (true, c, a) (p.fits c a k)) (λ k. Contains-append_right rows others (true, c, a) (q.fits c a k))
      (Contains-append_cases before after (c, a) h);
  led = λ d b h.
      ⊎_elim (λ k. let l = p.led d b k in (l.0, l.1, Contains-append_left before after (l.0, l.1) l.2, l.3))
      (λ k. let l = q.led d b k in (l.0, l.1, Contains-append_right before after (l.0, l.1) l.2, l.3))
      (Contains-append_cases rows others (true, d, b) h);
}

covers-none : Covers [] []
covers-none = record { fits = λ c a h. absurd (omega (arith, h.1)); led = λ d b h. absurd (omega (arith, h.1)) }

covers-first : {A : Type 0} (rows : List Row) (outcome : Result A CodeAt) → first rows ≡ refusal_in outcome → InOrder rows → Covers (refusal_of outcome) rows
covers-first rows (Ok x) e o = record {
  fits = λ c a h. absurd (omega (arith, h.1));
  led = λ d b h. absurd (none-fits rows e d b h.0 h.1 h.2);
}
covers-first rows (Err (c, a)) e o =
    let l = least rows c a (chain-ordered 0 o.0 rows o.1) e in
    record {
      fits = λ d b h. subst (λ (r : CodeAt). Fits rows r.0 r.1) (alone-is d b c a h) l.fits;
      led = λ d b h. (c, a, (0, omega arith, refl), l.least d b h);
    }

pub covers-one : {A : Type 0} (reading : Reading A) → InOrder reading.rows → Covers (refusals (reading ∷ [])) (rows_of (reading ∷ []))
covers-one reading o =
    covers-both (refusal_of reading.outcome) [] reading.rows [] (covers-first reading.rows reading.outcome reading.agrees o) covers-none

pub covers-all : {A : Type 0} (readings : List (Reading A)) → AreInOrder readings → Covers (refusals readings) (rows_of readings)
covers-all [] o = covers-none
covers-all (reading ∷ readings) o =
    covers-both (refusal_of reading.outcome) (refusals readings) reading.rows (rows_of readings)
    (covers-first reading.rows reading.outcome reading.agrees o.0) (covers-all readings o.1)

row-same : (c a d b : ℕ) → Fits ((true, c, a) ∷ []) d b → ◌≡◌ {A = CodeAt} (c, a) (d, b)
row-same c a d b (zero, lt, is) = ap (λ (r : Row). (r.1, r.2)) is
row-same c a d b (suc k, lt, is) = absurd (omega (arith, lt))

covers-alone : (c a : ℕ) → Covers ((c, a) ∷ []) ((true, c, a) ∷ [])
covers-alone c a = record {
  fits = λ d b h. (0, omega arith, ap (λ (r : CodeAt). (true, r.0, r.1)) (alone-is d b c a h));
  led = λ d b h. (c, a, (0, omega arith, refl), subst (λ (r : CodeAt). IsNoLater c a r.0 r.1) (row-same c a d b h) (no-later-same c a));
}

covers-refused : (refusals : List CodeAt) → Covers refusals (refused_rows refusals)
covers-refused [] = covers-none
covers-refused ((c, a) ∷ refusals) =
    covers-both ((c, a) ∷ []) refusals ((true, c, a) ∷ []) (refused_rows refusals) (covers-alone c a) (covers-refused refusals)

-- all refusals of a draft, and all rows
whole : (names : Declared) (theory : DraftTheory) (program : DraftProgram) → TheoryInOrder theory → ProgramInOrder program
    → Covers (refusals_in names theory program) (rows_in names theory program)
whole names theory program order ordered =
    let sorts = map sort_item theory.sorts in
    covers-both _ _ _ _
    (covers-both _ _ _ _
    (covers-both _ _ _ _
    (covers-both _ _ _ _
    (covers-both _ _ _ _
    (covers-both _ _ _ _
    (covers-both _ _ _ _
    (covers-both _ _ _ _
    (covers-both _ _ _ _ (covers-one (fluent_sum theory) (sum-in-order fluent_counted sorts GROUND_FLUENTS theory.fluents order.fluents))
    (covers-one (action_sum theory) (sum-in-order action_counted sorts GROUND_ACTIONS theory.actions order.actions)))
    (covers-all (map (start_in names) theory.starts) (all-in-order start_places (start_in names) (start-spans names) theory.starts order.starts)))
    (covers-all (map (poss_in names) theory.poss) (all-in-order poss_places (poss_in names) (poss-spans names) theory.poss order.poss)))
    (covers-all (map (cause_in names) theory.causes) (all-in-order cause_places (cause_in names) (cause-spans names) theory.causes order.causes)))
    (covers-all (senses_in names [] theory.senses) (senses-in-order names [] theory.senses order.senses)))
    (covers-all (map (proc_in names) program.procs) (all-in-order proc_places (proc_in names) (proc-spans names) program.procs ordered.procs)))
    (covers-refused (all_front_refusals program.procs)))
    (covers-refused (all_block_refusals program.procs program.main.body)))
    (covers-one (main_in names program.main) (64 * ordered.main.0, main-spans names program.main ordered.main.0 ordered.main.1))

-- what a check answers is the least of all rows that fit
pub least-row : (result : Result Agent CheckFault) (theory : DraftTheory) (program : DraftProgram) → Checks result theory program
    → TheoryInOrder theory → ProgramInOrder program → IsLeastRow result (all_rows theory program)
least-row (Ok agent) theory program c order ordered =
    let w = whole (names_of theory program) theory program order ordered in
    λ d b h.
    let l = subst (λ (rs : List CodeAt). Leads rs d b) c.0 (w.led d b h) in absurd (omega (arith, l.2.1))
least-row (Err (Refused code at)) theory program c order ordered =
    let w = whole (names_of theory program) theory program order ordered in
    record {
      fits = w.fits code at c.fits;
      least = λ d b h. let l = w.led d b h in no-later-on code at l.0 l.1 d b (c.least l.0 l.1 l.2) l.3;
    }
least-row (Err Memory) theory program c order ordered = tt

-- the first row of a reading that fits is the least of those that do
pub first-is-least : {A : Type 0} (result : Result A CheckFault) (reading : Reading A) → Answers result reading → InOrder reading.rows → IsLeastRow result reading.rows
first-is-least result reading is o = least_row code_at result reading.rows (chain-ordered 0 o.0 reading.rows o.1) (first_row code_at result reading is)

-- a condition, whose names are those of an agent
pub least-of-cond : (names own : Declared) → own ≡ names → (draft : DraftCond) (result : Result Cond CheckFault) → Answers result (cond_in own draft [])
    → IsAscending (cond_places draft) → IsLeastRow result (cond_in names draft []).rows
least-of-cond names own is draft result answers order =
    subst (λ (n : Declared). IsLeastRow result (cond_in n draft []).rows) is
    (first-is-least result (cond_in own draft []) answers (64 * order.0, cond-spans own draft [] 0 order.0 order.1))
