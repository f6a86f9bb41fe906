-- The labels of a run, read one after another.
use Rattle.std.proofs.Common.{◌≡◌, Option, Some, None, List, [], ◌∷◌, ◌++◌, drop, ap, ◌∙◌}
use Rattle.std.specs.Prelude.{option_and_then}
use Rattle.golog_tree.specs.declared.agent.Agent.{Agent}
use Rattle.golog_tree.specs.declared.prog.Label.{Label}
use Rattle.golog_semantics.specs.Text.{Text}
use Rattle.golog_reports.specs.Reads.{label_named, labels_named}

module _ (agent : Agent) (labels : List Label) (step : Text) where
  -- a label that is read, or is none, behind those so far
  pub next_label : (steps : List Text) (all : Option (List Label)) → labels_named agent labels (step ∷ steps) ≡ all → (label : Label) → Some label ≡ label_named agent (drop 1 step)
      → labels_named agent (labels ++ label ∷ []) steps ≡ all
  next_label steps all h label e = ap (option_and_then (λ label. labels_named agent (labels ++ label ∷ []) steps)) e ∙ h

  pub no_label : (steps : List Text) (all : Option (List Label)) → labels_named agent labels (step ∷ steps) ≡ all → None ≡ label_named agent (drop 1 step) → None ≡ all
  no_label steps all h e = ap (option_and_then (λ label. labels_named agent (labels ++ label ∷ []) steps)) e ∙ h
