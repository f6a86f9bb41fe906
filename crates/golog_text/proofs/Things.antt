-- The things that a report names are the agent's.
use Rattle.std.proofs.Common.{◌≡◌, ℕ, suc, ◌<◌, Bool, true, false, not, ◌&&◌, ◌==◌, Some, List, [], ◌∷◌, ◌++◌, length, arith}
use Rattle.std.specs.Prelude.{All, IfSome, find, if◌then◌else◌, nat_le, nat_lt, option_map}
use Rattle.std.specs.List.{AllByRecursion, list_all, list_any}
use Rattle.std.proofs.lemmas.List.Elements.{All-from_recursion}
use Rattle.std.proofs.lemmas.Bool.{ltb-true}
use Rattle.std.proofs.lemmas.Option.{slice_get_within}
use Rattle.golog_tree.specs.declared.agent.Agent.{Agent}
use Rattle.golog_tree.specs.declared.prog.Label.TheVariants.{Do as Doing}
use Rattle.golog_tree.specs.Ground.{action_args, fluent_args, ground_actions, ground_count, ground_fluents, sort_size}
use Rattle.golog_tree.proofs.Numbers.{length-all_from}
use Rattle.golog_semantics.specs.declared.journal.Entry.{Entry}
use Rattle.golog_semantics.specs.declared.journal.Entry.TheVariants.{Do, Test, Exo, Sense, Rest, Close, End}
use Rattle.golog_semantics.specs.declared.journal.PlacedRun.{PlacedRun}
use Rattle.golog_semantics.specs.declared.journal.Report.{Report}
use Rattle.golog_semantics.specs.Journal.{Journal, commands}
use Rattle.golog_semantics.specs.Online.{is_result}
use Rattle.golog_semantics.specs.Reports.{IsReport, fits_entry, fits_label, fits_run, is_device, is_exogenous, is_value, place_limit}
use Rattle.golog_semantics.specs.Text.{at_each, run_at}
use Rattle.golog_semantics.specs.Values.{fluent_sort}
use Rattle.golog_semantics.specs.Ways.{is_empty}
use Rattle.golog_semantics.proofs.ActionNames.{HasAction}
use Rattle.golog_semantics.proofs.Fits.{has_action}
use Rattle.golog_semantics.proofs.Words.{and-left, and-right}
use Rattle.golog_progress.specs.Entries.{EntryFits}
use Rattle.golog_text.specs.Named.{AreLabels, AreNamed, IsAction, IsDevice, IsNamed}

module _ (agent : Agent) where
  action-below : (action : ℕ) → HasAction agent action → IsAction agent action
  action-below action has =
      let inside = slice_get_within (ground_actions agent) action (has.at, has.args) has.ground in
      let whole = length-all_from agent (action_args agent) 0 in
      omega (arith, inside, whole)

  below : (device : ℕ) → is_device agent device ≡ true → IsDevice agent device
  below device h = ltb-true device (length agent.devices) h

  pub label_action : (action : ℕ) → fits_label agent (Doing action) ≡ true → IsAction agent action
  label_action action h = action-below action (has_action agent _ action h)

  entry-named : (before : Journal) (e : Entry) → fits_entry agent before e ≡ true → IsNamed agent e
  entry-named before (Do action) h = action-below action (has_action agent _ action h)
  entry-named before Test h = tt
  entry-named before (Exo poster action) h = (
    below poster (and-left (is_device agent poster) (is_exogenous agent action) h),
    action-below action (has_action agent _ action (and-right (is_device agent poster) (is_exogenous agent action) h)),
  )
  entry-named before (Sense poster place fluent value) h =
      let both = and-left (is_device agent poster && is_value agent fluent value) (list_any (is_result agent before place fluent) (commands agent poster before)) h in
      (below poster (and-left (is_device agent poster) (is_value agent fluent value) both), and-right (is_device agent poster) (is_value agent fluent value) both)
  entry-named before (Rest poster taken) h = below poster (and-left (is_device agent poster) (nat_le taken place_limit) h)
  entry-named before (Close poster reason taken) h = below poster (and-left (is_device agent poster) (nat_le taken place_limit) h)
  entry-named before (End answer) h = tt

  -- an entry that names the agent's things has values after it
  pub named_fits : (e : Entry) → IsNamed agent e → EntryFits agent e
  named_fits (Do action) h = let whole = length-all_from agent (action_args agent) 0 in omega (arith, h, whole)
  named_fits Test h = tt
  named_fits (Exo poster action) h = let whole = length-all_from agent (action_args agent) 0 in omega (arith, h.1, whole)
  named_fits (Sense poster place fluent value) h = h.1
  named_fits (Rest poster taken) h = tt
  named_fits (Close poster reason taken) h = tt
  named_fits (End answer) h = tt

  entries-named : (before entries : Journal) → list_all (λ fits. fits) (at_each (fits_entry agent) before entries) ≡ true → AllByRecursion (IsNamed agent) entries
  entries-named before [] h = tt
  entries-named before (e ∷ entries) h =
      let rest = list_all (λ fits. fits) (at_each (fits_entry agent) (before ++ e ∷ []) entries) in
      (entry-named before e (and-left (fits_entry agent before e) rest h), entries-named (before ++ e ∷ []) entries (and-right (fits_entry agent before e) rest h))

  pub entries_named : (report : Report) → IsReport agent report → All (IsNamed agent) report.entries
  entries_named report fits = All-from_recursion (IsNamed agent) report.entries (entries-named [] report.entries fits.entries)

  run-named : (entries : Journal) (r : PlacedRun) → fits_run agent entries r ≡ true → AreLabels agent r.labels
  run-named entries r h =
      let some = not (is_empty r.labels) in
      let labels = list_all (fits_label agent) r.labels in
      and-right some labels (and-left (some && labels) _ h)

  runs-named : (entries : Journal) (runs : List PlacedRun) → list_all (fits_run agent entries) runs ≡ true → AllByRecursion (λ r. AreLabels agent r.labels) runs
  runs-named entries [] h = tt
  runs-named entries (r ∷ runs) h =
      let rest = list_all (fits_run agent entries) runs in
      (run-named entries r (and-left (fits_run agent entries r) rest h), runs-named entries runs (and-right (fits_run agent entries r) rest h))

  pub runs_named : (report : Report) → IsReport agent report → AreNamed agent report.runs
  runs_named report fits = All-from_recursion (λ r. AreLabels agent r.labels) report.runs (runs-named report.entries report.runs fits.runs)

  -- the run at a place is one of them
  pub run_named : (runs : List PlacedRun) → AreNamed agent runs → (place : ℕ) → IfSome (run_at runs place) (AreLabels agent)
  run_named [] named place = tt
  run_named (r ∷ runs) named place = go (r.place == place) (run_named runs (λ k d inside. named (suc k) d (omega (arith, inside))) place)
    where
      go : (b : Bool) → IfSome (run_at runs place) (AreLabels agent) → IfSome (option_map (λ (q : PlacedRun). q.labels) (if b then Some r else find (λ (q : PlacedRun). q.place == place) runs)) (AreLabels agent)
      go true rest = named 0 r (omega arith)
      go false rest = rest

  module _ (fluent value : ℕ) (h : is_value agent fluent value ≡ true) where
    is-fluent : nat_lt fluent (length (ground_fluents agent)) ≡ true
    is-fluent = and-left (nat_lt fluent (length (ground_fluents agent))) (nat_lt value (sort_size agent (fluent_sort agent fluent))) h

    pub fluent_within : fluent < length (ground_fluents agent)
    fluent_within = ltb-true fluent (length (ground_fluents agent)) is-fluent

    pub fluent_below : fluent < ground_count agent (fluent_args agent)
    fluent_below = let whole = length-all_from agent (fluent_args agent) 0 in omega (arith, fluent_within, whole)

    pub value_below : value < sort_size agent (fluent_sort agent fluent)
    value_below =
        ltb-true value (sort_size agent (fluent_sort agent fluent))
        (and-right (nat_lt fluent (length (ground_fluents agent))) (nat_lt value (sort_size agent (fluent_sort agent fluent))) h)
