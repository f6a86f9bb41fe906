-- The runs that the steps of a journal begin, with one more entry.
use Rattle.std.proofs.Common.{◌≡◌, ℕ, zero, suc, ◌+◌, ◌<◌, ◌≤◌, true, false, if◌then◌else◌, List, [], ◌∷◌, ◌++◌, length, length-append, Option, Some, None, refl, ap, ◌∙◌, subst, arith}
use Rattle.std.specs.Prelude.{◌==◌, find, option_map, IsSome}
use Rattle.std.specs.Cmp.Lexicographic.{pointwise}
use Rattle.std.specs.List.{flat_map}
use Rattle.std.specs.Option.{option_or}
use Rattle.std.proofs.lemmas.Bool.{and_from, eq-eqb, ne_eqb}
use Rattle.std.proofs.lemmas.List.{append-nil}
use Rattle.std.proofs.lemmas.Grind.{flat_map-append}
use Rattle.std.proofs.lemmas.List.Folds.{find-append}
use Rattle.std.proofs.lemmas.List.Sums.{sum_by-cons}
use Rattle.golog_tree.specs.declared.agent.Agent.{Agent}
use Rattle.golog_tree.specs.declared.prog.Label.{Label}
use Rattle.golog_tree.specs.declared.prog.Label.TheVariants.{Quiet, Do as Doing}
use Rattle.golog_semantics.specs.declared.journal.Entry.{Entry}
use Rattle.golog_semantics.specs.declared.journal.Entry.TheVariants.{Do, Test, Exo, Sense, Rest, Close, End}
use Rattle.golog_semantics.specs.declared.journal.PlacedRun.{PlacedRun}
use Rattle.golog_semantics.specs.Same.{same_label, same_run}
use Rattle.golog_semantics.specs.Journal.{Journal, count, is_counted, limit}
use Rattle.golog_semantics.specs.Progress.{values_after, left_after}
use Rattle.golog_semantics.specs.Text.{at_each, run_at}
use Rattle.golog_semantics.specs.InlineText.{begun_runs, placed_run, report_of, run_after}
use Rattle.golog_semantics.specs.OneMore.{BeginFrom, with_runs}
use Rattle.golog_semantics.specs.Online.{IsOnlineSoFar, first_fault, keeps_run}
use Rattle.golog_semantics.proofs.Grown.{report_grows}
use Rattle.golog_semantics.proofs.LaterRuns.{later_runs}
use Rattle.golog_semantics.proofs.NoFaults.{no-fault-so_far, so_far-no-fault}
use Rattle.golog_semantics.proofs.Pushed.{at_each-push}
use Rattle.golog_lead.specs.Keeping.{KeepsRules, begun_by}
use Rattle.golog_lead.specs.Run.{is_step_entry}
use Rattle.golog_lead.proofs.StepEntries.{each-step}

-- ---- a run at its place

-- no run is found at a later place
find-placed : (place n : ℕ) (o : Option (List Label)) → place < n → find (λ (r : PlacedRun). r.place == n) (placed_run place o) ≡ None
find-placed place n None h = refl
find-placed place n (Some labels) h = rw (ne_eqb place n (λ e. omega (arith, e, h))) refl

find-here : (place : ℕ) (o : Option (List Label)) → option_map (λ (r : PlacedRun). r.labels) (find (λ (r : PlacedRun). r.place == place) (placed_run place o)) ≡ o
find-here place None = refl
find-here place (Some labels) = rw (eq-eqb place place refl) refl

pub from-placed : (place : ℕ) (o : Option (List Label)) → BeginFrom place (placed_run place o)
from-placed place None = λ i d l. absurd (omega (arith, l))
from-placed place (Some labels) = one
  where
    one : BeginFrom place (record { place = place; labels = labels } ∷ [])
    one zero d l = omega arith
    one (suc i) d l = absurd (omega (arith, l))

same_label-same : (l : Label) → same_label l l ≡ true
same_label-same Quiet = refl
same_label-same (Doing a) = eq-eqb a a refl

same_labels : (ls : List Label) → pointwise same_label ls ls ≡ true
same_labels [] = refl
same_labels (l ∷ ls) = and_from (same_label l l) (pointwise same_label ls ls) (same_label-same l) (same_labels ls)

same_run-same : (o : Option (List Label)) → same_run o o ≡ true
same_run-same None = refl
same_run-same (Some ls) = same_labels ls

counts-one : (e : Entry) (rest : Journal) → count (e ∷ rest) ≡ (if is_counted e then 1 else 0) + count rest
counts-one e rest = sum_by-cons (λ x. if is_counted x then 1 else 0) e rest

module _ (agent : Agent) where
  -- ---- the runs of a journal

  pub begun-push : (j : Journal) (e : Entry) → begun_runs agent (j ++ e ∷ []) ≡ begun_runs agent j ++ run_after agent j e
  begun-push j e =
      ap (flat_map (λ runs. runs)) (at_each-push (run_after agent) j e)
      ∙ flat_map-append (λ runs. runs) (at_each (run_after agent) [] j) (run_after agent j e ∷ [])
      ∙ ap (λ runs. begun_runs agent j ++ runs) (append-nil (run_after agent j e))

  find-from : (before j : Journal) (n : ℕ) → length before + length j ≤ n
      → find (λ (r : PlacedRun). r.place == n) (flat_map (λ runs. runs) (at_each (run_after agent) before j)) ≡ None
  find-from before [] n h = refl
  find-from before (e ∷ j) n h =
      find-append (λ (r : PlacedRun). r.place == n) (run_after agent before e) (flat_map (λ runs. runs) (at_each (run_after agent) (before ++ e ∷ []) j))
      ∙ ap (λ o. option_or o (find (λ (r : PlacedRun). r.place == n) (flat_map (λ runs. runs) (at_each (run_after agent) (before ++ e ∷ []) j))))
      (find-placed (length before) n (begun_by agent before e) (omega (arith, h)))
      ∙ find-from (before ++ e ∷ []) j n (let l = length-append before (e ∷ []) in omega (arith, h, l))

  module _ (j : Journal) (e : Entry) where
    abbrev now : List PlacedRun
    now = begun_runs agent (j ++ e ∷ [])

    pub run-here : run_at now (length j) ≡ begun_by agent j e
    run-here =
        ap (λ runs. run_at runs (length j)) (begun-push j e)
        ∙ ap (option_map (λ (r : PlacedRun). r.labels))
        (find-append (λ (r : PlacedRun). r.place == length j) (begun_runs agent j) (run_after agent j e)
        ∙ ap (λ o. option_or o (find (λ (r : PlacedRun). r.place == length j) (run_after agent j e))) (find-from [] j (length j) (omega arith)))
        ∙ find-here (length j) (begun_by agent j e)

    -- the run that begins is the one that is kept
    pub run-kept : keeps_run agent j (run_at now (length j)) (values_after agent j) (left_after agent j) e ≡ true
    run-kept = ap (λ o. same_run o (begun_by agent j e)) run-here ∙ same_run-same (begun_by agent j e)

    so-far : IsOnlineSoFar agent (report_of agent j) → IsOnlineSoFar agent (with_runs now j)
    so-far h =
        so_far-no-fault agent (with_runs now j)
        (ap (λ runs. first_fault agent None (with_runs runs j)) (begun-push j e)
        ∙ (later_runs agent j (begun_runs agent j) (run_after agent j e) (from-placed (length j) (begun_by agent j e))).same_fault
        ∙ no-fault-so_far agent (report_of agent j) h)

    -- ---- an online execution so far

    pub online-grows : IsOnlineSoFar agent (report_of agent j) → KeepsRules agent j e → IsOnlineSoFar agent (report_of agent (j ++ e ∷ []))
    online-grows h k = (report_grows agent j e now).online (so-far h) k

    pub keeps-rules : IsOnlineSoFar agent (report_of agent (j ++ e ∷ [])) → KeepsRules agent j e
    keeps-rules h = (report_grows agent j e now).keeps_rules h

  -- ---- how many there are

  -- a run begins with a step
  pub begun-steps : (j : Journal) (e : Entry) → IsSome (begun_by agent j e) → is_step_entry e ≡ true
  begun-steps j (Do a) h = refl
  begun-steps j Test h = refl
  begun-steps j (Exo p a) h = absurd (cc)
  begun-steps j (Sense p at f v) h = absurd (cc)
  begun-steps j (Rest p t) h = absurd (cc)
  begun-steps j (Close p r t) h = absurd (cc)
  begun-steps j (End a) h = absurd (cc)

  -- which counts
  pub step-counts : (e : Entry) → is_step_entry e ≡ true → is_counted e ≡ true
  step-counts = each-step (λ e. is_counted e ≡ true) (λ action. refl) refl

  pub begun-none : (j : Journal) (e : Entry) → is_step_entry e ≡ false → begun_by agent j e ≡ None
  begun-none j (Do a) h = absurd (cc)
  begun-none j Test h = absurd (cc)
  begun-none j (Exo p a) h = refl
  begun-none j (Sense p at f v) h = refl
  begun-none j (Rest p t) h = refl
  begun-none j (Close p r t) h = refl
  begun-none j (End a) h = refl

  one-placed : (place : ℕ) (o : Option (List Label)) → length (placed_run place o) ≤ 1
  one-placed place None = omega arith
  one-placed place (Some labels) = omega arith

  one-more : (j : Journal) (e : Entry) (rest : Journal) (runs : List PlacedRun) → length runs ≤ count rest → length (run_after agent j e ++ runs) ≤ count (e ∷ rest)
  one-more j (Do a) rest runs h =
      let one = one-placed (length j) (begun_by agent j (Do a)) in
      let l = length-append (run_after agent j (Do a)) runs in
      let c = counts-one (Do a) rest in
      omega (arith, h, one, l, c)
  one-more j Test rest runs h =
      let one = one-placed (length j) (begun_by agent j Test) in
      let l = length-append (run_after agent j Test) runs in
      let c = counts-one Test rest in
      omega (arith, h, one, l, c)
  one-more j (Exo p a) rest runs h = let c = counts-one (Exo p a) rest in omega (arith, h, c)
  one-more j (Sense p at f v) rest runs h = let c = counts-one (Sense p at f v) rest in omega (arith, h, c)
  one-more j (Rest p t) rest runs h = let c = counts-one (Rest p t) rest in omega (arith, h, c)
  one-more j (Close p r t) rest runs h = h
  one-more j (End a) rest runs h = h

  few-from : (before j : Journal) → length (flat_map (λ runs. runs) (at_each (run_after agent) before j)) ≤ count j
  few-from before [] = omega arith
  few-from before (e ∷ j) =
      one-more before e j (flat_map (λ runs. runs) (at_each (run_after agent) (before ++ e ∷ []) j)) (few-from (before ++ e ∷ []) j)

  -- no more than entries that count
  pub few-runs : (j : Journal) → length (begun_runs agent j) ≤ count j
  few-runs j = few-from [] j

-- there is room for the run that begins
pub run-room : (agent : Agent) (list : Journal) (e : Entry) (runs : List PlacedRun) (run : Option (List Label))
    → runs ≡ begun_runs agent list → (is_step_entry e ≡ true → count list < limit) → run ≡ begun_by agent list e
    → IsSome run → length runs < limit
run-room agent list e runs run runs_so room begins some =
    let few = few-runs agent list in
    let many : length runs ≡ length (begun_runs agent list) = ap (λ rs. length rs) runs_so in
    let below : count list < limit = room (begun-steps agent list e (subst IsSome begins some)) in
    omega (arith, few, many, below)
