-- Plans that branch on what is sensed: what a step may go on with.
--
-- That a program with sensing is planned for by a tree with a branch for each outcome is De Giacomo and
-- Levesque's (1999). That a fluent whose value is known has one branch is this project's own.
use Rattle.std.specs.Prelude.{ℕ, ◌+◌, if◌then◌else◌, Option, Some, None, List, [], ◌∷◌, map, slice_index, slice_set}
use Rattle.std.specs.List.{sum}
use Rattle.golog_tree.specs.declared.agent.Agent.{Agent}
use Rattle.golog_tree.specs.declared.prog.Label.{Label}
use Rattle.golog_tree.specs.declared.prog.Label.TheVariants.{Quiet, Do}
use Rattle.golog_semantics.specs.Truth.{Values, constants, is_known}
use Rattle.golog_semantics.specs.Values.{after, fluent_sort}
use Rattle.golog_semantics.specs.Journal.{fluent_sensed}
use Rattle.golog_branch.specs.declared.tree.Tree.{Tree}
use Rattle.golog_branch.specs.declared.tree.Tree.TheOpen.{Tree-F, Done, Step}
use Rattle.golog_branch.specs.declared.tree.Tree.TheFolds.{fold-Tree}

-- what stands in a branch in place of a value where nothing is sensed; no constant has this place in its sort
abbrev pub unsensed : ℕ
unsensed = 255

-- a value that may be sensed, and the values of the ground fluents then
abbrev pub Case : Type 0
Case = ℕ × Values

-- a constant of the fluent is sensed, and is known then
abbrev pub with_sensed : Values → ℕ → ℕ → Case
with_sensed there fluent value = (value, slice_set there fluent value)

module _ (agent : Agent) where
  -- the ground fluent that a step senses, if it senses one
  abbrev pub sensed_by_label : Label → Option ℕ
  sensed_by_label Quiet = None
  sensed_by_label (Do action) = fluent_sensed agent action

  -- What a step may go on with at the values after it: one case where nothing is sensed or the value is known
  -- already, and else one for each constant of the fluent's sort, in order.
  abbrev pub cases_by : Values → Option ℕ → List Case
  cases_by there None = (unsensed, there) ∷ []
  cases_by there (Some fluent) =
      if is_known (slice_index there fluent) then (slice_index there fluent, there) ∷ []
      else map (with_sensed there fluent) (constants agent (fluent_sort agent fluent))

  -- what a step that is taken at these values may go on with
  abbrev pub cases : Values → Label → List Case
  cases values label = cases_by (after agent values label) (sensed_by_label label)

-- how many steps a plan has, each counted once for each place where it stands
abbrev pub steps_step : Tree-F ℕ ℕ → ℕ
steps_step Done = 0
steps_step (Step label left next) = 1 + sum next

abbrev pub steps : Tree → ℕ
steps = fold-Tree ℕ ℕ steps_step (λ b. b.tree)
