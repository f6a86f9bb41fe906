-- The runs that the steps of a journal begin: they fit in its report, in the order of their places, and have 64 labels
-- at most.
use Rattle.std.proofs.Common.{◌≡◌, ℕ, ◌+◌, ◌≤◌, true, false, not, ◌&&◌, List, [], ◌∷◌, ◌++◌, length, length-append, map, Option, Some, None, refl, sym, ap, ◌∙◌, subst, append_assoc, arith}
use Rattle.std.specs.Prelude.{IfSome, is_some, slice_get, nat_le, Contains}
use Rattle.std.specs.List.{list_all}
use Rattle.std.specs.Option.{option_map_or}
use Rattle.std.proofs.lemmas.Bool.{and_from, le-leb}
use Rattle.std.proofs.lemmas.List.Elements.{Contains-append_left, Contains-push}
use Rattle.std.proofs.lemmas.List.Folds.{list_all-append}
use Rattle.golog_tree.specs.declared.agent.Agent.{Agent}
use Rattle.golog_tree.specs.declared.prog.Label.{Label}
use Rattle.golog_semantics.specs.declared.Mode.TheVariants.{Must}
use Rattle.golog_semantics.specs.declared.search.Move.{Move}
use Rattle.golog_semantics.specs.declared.journal.Entry.{Entry}
use Rattle.golog_semantics.specs.declared.journal.Entry.TheVariants.{Do, Test, Exo, Sense, Rest, Close, End}
use Rattle.golog_semantics.specs.declared.journal.PlacedRun.{PlacedRun}
use Rattle.golog_semantics.specs.Blocks.{moves}
use Rattle.golog_semantics.specs.Ways.{is_empty}
use Rattle.golog_semantics.specs.Journal.{Journal, longest}
use Rattle.golog_semantics.specs.Progress.{values_after, left_after}
use Rattle.golog_semantics.specs.Online.{label_of, run_of}
use Rattle.golog_semantics.specs.InlineText.{placed_run, report_of, run_after}
use Rattle.golog_semantics.specs.Reports.{IsReport, entry_limit, fits_entry, fits_label, fits_run, grow_from}
use Rattle.golog_semantics.specs.Text.{at_each}
use Rattle.golog_semantics.specs.WellFormed.{WellFormed}
use Rattle.golog_semantics.proofs.BlocksFit.{step_stays}
use Rattle.golog_semantics.proofs.GroundNumbers.{slice_get-right}
use Rattle.golog_semantics.proofs.LeftFits.{left_after-fits, procs_fit}
use Rattle.golog_semantics.proofs.Tests.{and_both, and_cases}
use Rattle.golog_journal.specs.Boards.{IsBoardList, is_lawful}
use Rattle.golog_journal.proofs.Lawful.{lawful-parts}
use Rattle.golog_lead.specs.Keeping.{begun_by}
use Rattle.golog_lead.proofs.RunsBegun.{MayBegin, none-begins, steps_begin}
use Rattle.golog_lead.proofs.WrittenLines.{runs_from}

-- a run at its place, behind which the others stand
one-grows : (n place : ℕ) (o : Option (List Label)) (runs : List PlacedRun) → n ≤ place
    → ((k : ℕ) → k ≤ place + 1 → grow_from k (map (λ (r : PlacedRun). r.place) runs) ≡ true)
    → grow_from n (map (λ (r : PlacedRun). r.place) (placed_run place o ++ runs)) ≡ true
one-grows n place None runs h grows = grows n (omega (arith, h))
one-grows n place (Some labels) runs h grows =
    and_from (nat_le n place) (grow_from (place + 1) (map (λ (r : PlacedRun). r.place) runs)) (le-leb n place h) (grows (place + 1) (omega arith))

module _ (agent : Agent) where
  -- ---- in order

  pub runs-grow : (before rest : Journal) (n : ℕ) → n ≤ length before → grow_from n (map (λ (r : PlacedRun). r.place) (runs_from agent before rest)) ≡ true
  runs-grow before [] n h = refl
  runs-grow before (e ∷ rest) n h =
      one-grows n (length before) (begun_by agent before e) (runs_from agent (before ++ e ∷ []) rest) h
      (λ k low. runs-grow (before ++ e ∷ []) rest k (let l = length-append before (e ∷ []) in omega (arith, low, l)))

  -- ---- of the agent

  -- a run begins with a step
  is-step : (before : Journal) (e : Entry) (labels : List Label) → begun_by agent before e ≡ Some labels → is_some (label_of e) ≡ true
  is-step before (Do a) labels h = refl
  is-step before Test labels h = refl
  is-step before (Exo p a) labels h = absurd (cc)
  is-step before (Sense p at f v) labels h = absurd (cc)
  is-step before (Rest p t) labels h = absurd (cc)
  is-step before (Close p r t) labels h = absurd (cc)
  is-step before (End a) labels h = absurd (cc)

  module _ (formed : WellFormed agent) where
    -- its labels are the agent's, and there is one
    record Fit (o : Option (List Label)) : Type 0 where
      labels : option_map_or (list_all (fits_label agent)) o true ≡ true
      begins : MayBegin o

    none-fit : Fit None
    none-fit = record { labels = refl; begins = none-begins }

    head-fit : (before : Journal) (ms : List Move) → moves agent (values_after agent before) Must (left_after agent before) ≡ ms → Fit (run_of agent before ms)
    head-fit before [] is = none-fit
    head-fit before (m ∷ ms) is =
        let inside : Contains (moves agent (values_after agent before) Must (left_after agent before)) m =
        subst (λ xs. Contains xs m) (sym is) (Contains-append_left (m ∷ []) ms m (Contains-push [] m)) in
        let procs = procs_fit agent formed in
        let fitting = left_after-fits agent formed before in
        record {
          labels = (step_stays agent procs (values_after agent before) Must (left_after agent before) fitting m inside).run;
          begins = steps_begin agent (values_after agent before) procs Must (left_after agent before) fitting m inside;
        }

    begun-fit : (before : Journal) (e : Entry) → Fit (begun_by agent before e)
    begun-fit before e = by-label (label_of e)
      where
        by-label : (label : Option Label)
            → Fit (option_map_or (λ (l : Label). run_of agent before (moves agent (values_after agent before) Must (left_after agent before))) label None)
        by-label None = none-fit
        by-label (Some l) = head-fit before (moves agent (values_after agent before) Must (left_after agent before)) refl

    -- a run that begins has 64 labels at most
    pub begun-few : (before : Journal) (e : Entry) → IfSome (begun_by agent before e) (λ labels. length labels ≤ 64)
    begun-few before e = (begun-fit before e).begins.few

    placed-fit : (before : Journal) (e : Entry) (rest : Journal) (o : Option (List Label)) → begun_by agent before e ≡ o
        → list_all (fits_run agent (before ++ e ∷ rest)) (placed_run (length before) o) ≡ true
    placed-fit before e rest None is = refl
    placed-fit before e rest (Some labels) is =
        let fit = subst Fit is (begun-fit before e) in
        let here : option_map_or (λ x. is_some (label_of x)) (slice_get (before ++ e ∷ rest) (length before)) false ≡ true =
        ap (λ o. option_map_or (λ x. is_some (label_of x)) o false) (slice_get-right before (e ∷ rest) (length before) 0 (omega arith)) ∙ is-step before e labels is in
        and_from (fits_run agent (before ++ e ∷ rest) (record { place = length before; labels = labels })) true
        (and_from (not (is_empty labels) && list_all (fits_label agent) labels) (option_map_or (λ x. is_some (label_of x)) (slice_get (before ++ e ∷ rest) (length before)) false)
        (and_from (not (is_empty labels)) (list_all (fits_label agent) labels) fit.begins.some fit.labels) here) refl

    pub runs-fit : (before rest : Journal) → list_all (fits_run agent (before ++ rest)) (runs_from agent before rest) ≡ true
    runs-fit before [] = refl
    runs-fit before (e ∷ rest) =
        list_all-append (fits_run agent (before ++ e ∷ rest)) (run_after agent before e) (runs_from agent (before ++ e ∷ []) rest)
        ∙ and_from (list_all (fits_run agent (before ++ e ∷ rest)) (run_after agent before e)) (list_all (fits_run agent (before ++ e ∷ rest)) (runs_from agent (before ++ e ∷ []) rest))
        (placed-fit before e rest (begun_by agent before e) refl)
        (subst (λ j. list_all (fits_run agent j) (runs_from agent (before ++ e ∷ []) rest) ≡ true) (append_assoc before (e ∷ []) rest) (runs-fit (before ++ e ∷ []) rest))

  -- ---- the report

  fits-each : (before rest : Journal) → list_all (λ b. b) (at_each (is_lawful agent) before rest) ≡ true → list_all (λ b. b) (at_each (fits_entry agent) before rest) ≡ true
  fits-each before [] h = refl
  fits-each before (e ∷ rest) h =
      let k = and_cases (is_lawful agent before e) (list_all (λ b. b) (at_each (is_lawful agent) (before ++ e ∷ []) rest)) h in
      and_both (fits_entry agent before e) (list_all (λ b. b) (at_each (fits_entry agent) (before ++ e ∷ []) rest))
      (lawful-parts agent before e k.0).of_agent (fits-each (before ++ e ∷ []) rest k.1)

  -- the report of a board's list has a text
  pub is-report-within : (journal : Journal) → WellFormed agent → IsBoardList agent journal → length journal ≤ entry_limit → IsReport agent (report_of agent journal)
  is-report-within journal formed lawful within = record {
    entries = fits-each [] journal lawful.lawful;
    runs = runs-fit formed [] journal;
    in_order = runs-grow [] journal 0 (omega arith);
    in_bounds = le-leb (length journal) entry_limit within;
    start = tt;
  }

  pub is-report : (journal : Journal) → WellFormed agent → IsBoardList agent journal → length journal ≤ longest → IsReport agent (report_of agent journal)
  is-report journal formed lawful short = is-report-within journal formed lawful (omega (arith, short))
