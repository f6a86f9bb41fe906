-- Whether a plan goes through from a program and what is known. (This project's own.)
use Rattle.std.specs.Prelude.{ℕ, Bool, true, false, ◌==◌, ◌&&◌, List, [], ◌∷◌}
use Rattle.std.specs.List.{list_any}
use Rattle.golog_tree.specs.declared.agent.Agent.{Agent}
use Rattle.golog_tree.specs.declared.prog.Label.{Label}
use Rattle.golog_tree.specs.declared.prog.Prog.{Prog}
use Rattle.golog_tree.specs.declared.prog.Way.{Way}
use Rattle.golog_semantics.specs.declared.Mode.TheVariants.{Must}
use Rattle.golog_semantics.specs.Same.{same_way}
use Rattle.golog_semantics.specs.Search.{final, plain_ways}
use Rattle.golog_semantics.specs.Truth.{Values}
use Rattle.golog_branch.specs.declared.tree.Branch.{Branch}
use Rattle.golog_branch.specs.declared.tree.Tree.{Tree}
use Rattle.golog_branch.specs.declared.tree.Tree.TheOpen.{Tree-F, Done, Step}
use Rattle.golog_branch.specs.declared.tree.Tree.TheFolds.{fold-Tree}
use Rattle.golog_branch.specs.Trees.{Case, cases}

-- whether a program and values are such that a plan goes through from there
abbrev pub Going : Type 0
Going = Prog → Values → Bool

-- a branch by its value, and from where its plan goes through
abbrev pub GoingBranch : Type 0
GoingBranch = ℕ × Going

-- the way of this label and this program left
abbrev pub way_to : Label → Prog → Way
way_to label left = record { label = label; left = left }

-- there is one branch for each case, in order, and each goes through from the program left
abbrev pub all_go : List GoingBranch → Prog → List Case → Bool
all_go [] left [] = true
all_go ((value, going) ∷ next) left ((sensed, there) ∷ others) =
    value == sensed && going left there && all_go next left others
all_go _ left _ = false

module _ (agent : Agent) where
  -- the way of this label and this program left is a certain one
  abbrev pub is_step : Label → Prog → Prog → Values → Bool
  is_step label left p values = list_any (same_way (way_to label left)) (plain_ways agent values Must p)

  abbrev pub goes_step : Tree-F Going GoingBranch → Going
  goes_step Done p values = final agent values Must p
  goes_step (Step label left next) p values = is_step label left p values && all_go next left (cases agent values label)

  -- The plan goes through from a program and values: each of its steps is a certain way there, it has a branch for
  -- each case, and where it is done the program certainly may end.
  abbrev pub goes : Tree → Prog → Values → Bool
  goes = fold-Tree Going GoingBranch goes_step (λ b. (b.value, b.tree))

  abbrev pub branch_going : Branch → GoingBranch
  branch_going b = (b.value, goes b.tree)
