-- The first plan of least height, and the work of the search for it. (The order, the least height, the depth, the
-- fuel and the limit on steps are this project's own.)
use Rattle.std.specs.Prelude.{ℕ, zero, suc, ◌+◌, nat_lt, if◌then◌else◌, Option, Some, None, List, [], ◌∷◌, length, map, filter, sum_by, option_map, option_and_then}
use Rattle.std.specs.List.{flat_map, range_with_len}
use Rattle.std.specs.Option.{option_map_or, option_or}
use Rattle.golog_tree.specs.declared.agent.Agent.{Agent}
use Rattle.golog_tree.specs.declared.prog.Prog.{Prog}
use Rattle.golog_tree.specs.declared.prog.Way.{Way}
use Rattle.golog_semantics.specs.declared.Mode.TheVariants.{Must}
use Rattle.golog_semantics.specs.Truth.{Values}
use Rattle.golog_semantics.specs.Search.{final, is_followed, plain_ways}
use Rattle.golog_semantics.specs.Blocks.{State, distinct}
use Rattle.golog_semantics.specs.Online.{first_some}
use Rattle.golog_branch.specs.declared.tree.Tree.{Tree}
use Rattle.golog_branch.specs.declared.tree.Tree.TheVariants as tree
use Rattle.golog_branch.specs.declared.tree.Branch.{Branch}
use Rattle.golog_branch.specs.declared.tree.Planned.{Planned}
use Rattle.golog_branch.specs.declared.tree.Planned.TheVariants.{Found, Absent, Fuel, Large}
use Rattle.golog_branch.specs.Trees.{Case, cases, steps}

-- the most steps of a plan
abbrev pub most_steps : ℕ
most_steps = 10000

-- a plan for a program at values, where there is one
abbrev pub Planning : Type 0
Planning = Prog → Values → Option Tree

-- all of these, where each is there
abbrev pub all_some : {A : Type 0} → List (Option A) → Option (List A)
all_some [] = Some []
all_some (o ∷ os) = option_and_then (λ x. option_map (λ xs. x ∷ xs) (all_some os)) o

-- the branch of a value
abbrev pub branch_to : ℕ → Tree → Branch
branch_to value t = record { value = value; tree = t }

-- the branch of a case, where there is a plan for it
abbrev pub branch_for : Planning → Prog → Case → Option Branch
branch_for plan left c = option_map (branch_to c.0) (plan left c.1)

-- a plan that is not too large
abbrev pub if_small : Tree → Planned
if_small t = if nat_lt most_steps (steps t) then Large else Found t

module _ (agent : Agent) where
  -- the ways that may be followed
  abbrev pub followed : Prog → Values → List Way
  followed p values = filter is_followed (plain_ways agent values Must p)

  -- the plan that begins with a way, where each of its cases has one
  abbrev pub step_for : Planning → Values → Way → Option Tree
  step_for plan values w =
      option_map (tree.Step w.label w.left) (all_some (map (branch_for plan w.left) (cases agent values w.label)))

  -- The first plan of at most so many steps in a row: none is wanted where the program certainly may end, and else
  -- it begins with the first way of which each case has a plan of one step less.
  unfoldable pub first_plan : ℕ → Prog → Values → Option Tree
  first_plan zero p values = if final agent values Must p then Some tree.Done else None
  first_plan (suc n) p values =
      if final agent values Must p then Some tree.Done
      else first_some (map (step_for (first_plan n) values) (followed p values))

  -- with the number for which it is
  abbrev pub plan_at : ℕ → Prog → Values → Option (ℕ × Tree)
  plan_at n p values = option_map (λ t. (n, t)) (first_plan n p values)

  -- the plan for the least of so many numbers from this one on
  abbrev pub plan_from : ℕ → ℕ → Prog → Values → Option (ℕ × Tree)
  plan_from n zero p values = None
  plan_from n (suc more) p values = option_or (plan_at n p values) (plan_from (n + 1) more p values)

  -- the plan for the least number from none to the depth, and that number
  unfoldable pub least_plan : ℕ → Prog → Values → Option (ℕ × Tree)
  least_plan depth p values = plan_from 0 (depth + 1) p values

  -- what one way leads to, in each of its cases
  abbrev pub way_states : Values → Way → List State
  way_states values w = map (λ (c : Case). (w.left, c.1)) (cases agent values w.label)

  -- the states that one step leads to; also a program that may end is gone on with
  abbrev pub next_states : State → List State
  next_states (p, values) = flat_map (way_states values) (followed p values)

  -- the distinct states that exactly so many steps lead to
  abbrev pub plan_level : Prog → Values → ℕ → List State
  plan_level p values zero = (p, values) ∷ []
  plan_level p values (suc k) = distinct [] (flat_map next_states (plan_level p values k))

  -- how many levels are looked at: the least number for which there is a plan, or the depth
  abbrev pub levels : ℕ → Prog → Values → ℕ
  levels depth p values = option_map_or (λ (found : ℕ × Tree). found.0) (least_plan depth p values) depth

  -- how many states they have
  unfoldable pub plan_work : ℕ → Prog → Values → ℕ
  plan_work depth p values =
      sum_by (λ k. length (plan_level p values k)) (range_with_len 0 (levels depth p values))

  -- what the search comes to within the depth and the fuel
  unfoldable pub planned : ℕ → ℕ → Prog → Values → Planned
  planned depth fuel p values =
      if nat_lt fuel (plan_work depth p values) then Fuel
      else option_map_or (λ (found : ℕ × Tree). if_small found.1) (least_plan depth p values) Absent
