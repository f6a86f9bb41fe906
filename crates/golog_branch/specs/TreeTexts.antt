-- The text of a plan, and which plans have one. All of it is this project's own.
use Rattle.std.specs.Prelude.{ℕ, Bool, true, false, ◌==◌, ◌&&◌, ◌||◌, nat_lt, if◌then◌else◌, Option, List, [], ◌∷◌, ◌++◌, codes, map}
use Rattle.std.specs.List.{flat_map, join_by, list_all}
use Rattle.std.specs.Option.{option_map_or}
use Rattle.golog_tree.specs.declared.agent.Agent.{Agent}
use Rattle.golog_tree.specs.Ground.{sort_size}
use Rattle.golog_semantics.specs.Reports.{fits_label}
use Rattle.golog_semantics.specs.Text.{Text, label_text, value_text}
use Rattle.golog_semantics.specs.Values.{fluent_sort}
use Rattle.golog_branch.specs.declared.tree.Branch.{Branch}
use Rattle.golog_branch.specs.declared.tree.Tree.{Tree}
use Rattle.golog_branch.specs.declared.tree.Tree.TheOpen.{Tree-F, Done, Step}
use Rattle.golog_branch.specs.declared.tree.Tree.TheFolds.{fold-Tree}
use Rattle.golog_branch.specs.Trees.{sensed_by_label, unsensed}

-- these are the values of the one branch of a step that senses nothing
abbrev pub is_unsensed : List ℕ → Bool
is_unsensed (value ∷ []) = value == unsensed
is_unsensed _ = false

-- a branch by its value, and the text of its plan
abbrev pub Told : Type 0
Told = ℕ × Text

-- a branch by its value, and whether its plan has a text
abbrev pub Tellable : Type 0
Tellable = ℕ × Bool

module _ (agent : Agent) where
  -- the constant that is sensed
  abbrev pub sensed_text : Option ℕ → ℕ → Text
  sensed_text sensed value = option_map_or (λ fluent. value_text agent fluent value) sensed []

  -- the constant that is sensed, and the plan then
  abbrev pub case_text : Option ℕ → Told → Text
  case_text sensed (value, text) = sensed_text sensed value ++ codes ": " ++ text

  -- what comes after a step: behind `; ` where nothing is sensed, and else each case in braces
  abbrev pub next_text : Option ℕ → List Told → Text
  next_text sensed next =
      if is_unsensed (map (λ (told : Told). told.0) next) then codes "; " ++ flat_map (λ (told : Told). told.1) next
      else codes "{" ++ join_by (case_text sensed) (codes " | ") next ++ codes "}"

  abbrev pub text_step : Tree-F Text Told → Text
  text_step Done = codes "."
  text_step (Step label left next) = label_text agent label ++ next_text (sensed_by_label agent label) next

  -- the text of a plan, as `look{false: knock; . | true: go; .}`
  abbrev pub tree_text : Tree → Text
  tree_text = fold-Tree Text Told text_step (λ b. (b.value, b.tree))

  abbrev pub branch_text : Branch → Told
  branch_text b = (b.value, tree_text b.tree)

  -- the value is a constant of the fluent that is sensed
  abbrev pub is_sensed : Option ℕ → ℕ → Bool
  is_sensed sensed value =
      option_map_or (λ fluent. nat_lt value (sort_size agent (fluent_sort agent fluent))) sensed false

  -- each has a text, and there is one without a value, or each is of a constant of the fluent that is sensed
  abbrev pub are_told : Option ℕ → List Tellable → Bool
  are_told sensed next =
      list_all (λ (told : Tellable). told.1) next
      && (is_unsensed (map (λ (told : Tellable). told.0) next)
      || list_all (λ (told : Tellable). is_sensed sensed told.0) next)

  abbrev pub told_step : Tree-F Bool Tellable → Bool
  told_step Done = true
  told_step (Step label left next) = fits_label agent label && are_told (sensed_by_label agent label) next

  -- the plan has a text: each step is the agent's, and its branches are of what it may sense
  abbrev pub is_told : Tree → Bool
  is_told = fold-Tree Bool Tellable told_step (λ b. (b.value, b.tree))

  abbrev pub branch_told : Branch → Tellable
  branch_told b = (b.value, is_told b.tree)
