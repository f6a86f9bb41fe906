-- The results of a report that has a text are values of their fluents.
use Rattle.std.proofs.Common.{◌≡◌, true, ◌&&◌, [], ◌∷◌, ◌++◌}
use Rattle.std.specs.List.{list_all, list_any}
use Rattle.golog_tree.specs.declared.agent.Agent.{Agent}
use Rattle.golog_semantics.specs.declared.journal.Entry.{Entry}
use Rattle.golog_semantics.specs.declared.journal.Entry.TheVariants.{Do, Test, Exo, Sense, Rest, Close, End}
use Rattle.golog_semantics.specs.Journal.{Journal, commands}
use Rattle.golog_semantics.specs.Text.{at_each}
use Rattle.golog_semantics.specs.Online.{is_result}
use Rattle.golog_semantics.specs.Reports.{fits_entry, is_device, is_value}
use Rattle.golog_semantics.specs.SortLaws.{ResultsFit}
use Rattle.golog_laws.specs.TextLaws.{ResultsOfReportsFit}
use Rattle.golog_semantics.proofs.Words.{and-left, and-right}

module _ (agent : Agent) where
  abbrev Fit : Journal → Journal → Type 0
  Fit before entries = list_all (λ fits. fits) (at_each (fits_entry agent) before entries) ≡ true

  later : (before : Journal) (e : Entry) (entries : Journal) → Fit before (e ∷ entries) → Fit (before ++ e ∷ []) entries
  later before e entries h = and-right (fits_entry agent before e) (list_all (λ fits. fits) (at_each (fits_entry agent) (before ++ e ∷ []) entries)) h

  results-from : (before entries : Journal) → Fit before entries → ResultsFit agent entries
  results-from before [] h = tt
  results-from before (Do action ∷ entries) h = results-from (before ++ Do action ∷ []) entries (later before (Do action) entries h)
  results-from before (Test ∷ entries) h = results-from (before ++ Test ∷ []) entries (later before Test entries h)
  results-from before (Exo d action ∷ entries) h = results-from (before ++ Exo d action ∷ []) entries (later before (Exo d action) entries h)
  results-from before (Sense d place fluent value ∷ entries) h =
      let rest = list_all (λ fits. fits) (at_each (fits_entry agent) (before ++ Sense d place fluent value ∷ []) entries) in
      let one = and-left (fits_entry agent before (Sense d place fluent value)) rest h in
      let both = and-left (is_device agent d && is_value agent fluent value) (list_any (is_result agent before place fluent) (commands agent d before)) one in
      (and-right (is_device agent d) (is_value agent fluent value) both, results-from (before ++ Sense d place fluent value ∷ []) entries (later before (Sense d place fluent value) entries h))
  results-from before (Rest d taken ∷ entries) h = results-from (before ++ Rest d taken ∷ []) entries (later before (Rest d taken) entries h)
  results-from before (Close d reason taken ∷ entries) h = results-from (before ++ Close d reason taken ∷ []) entries (later before (Close d reason taken) entries h)
  results-from before (End answer ∷ entries) h = results-from (before ++ End answer ∷ []) entries (later before (End answer) entries h)

pub results_fit : ResultsOfReportsFit
results_fit agent report fits = results-from agent [] report.entries fits.entries
