-- Ground fluents and ground actions, by their numbers.
use Rattle.std.specs.Prelude.{◌≡◌, ℕ, zero, suc, ℤ, pos, negsuc, ◌+◌, ◌*◌, ◌/◌, ◌%◌, ◌-ℤ◌, ◌+ℤ◌, Option, Some, None, List, [], ◌∷◌, ◌++◌, ◌<◌, ◌≤◌, ⊤, All, length, map, sum_by, take, slice_get}
use Rattle.std.specs.List.{range_with_len}
use Rattle.golog_tree.specs.declared.agent.Agent.{Agent}
use Rattle.golog_tree.specs.declared.agent.SortItem.{SortItem}
use Rattle.golog_tree.specs.declared.agent.SortItem.TheVariants.{Range, Listed}

-- a whole number as a count, where one below 0 counts as none
abbrev pub to_count : ℤ → ℕ
to_count (pos n) = n
to_count (negsuc n) = 0

-- how many constants the sort has
abbrev pub item_size : SortItem → ℕ
item_size (Range name low high) = to_count (high -ℤ low +ℤ pos 1)
item_size (Listed name constants) = length constants

-- the size of a sort, where there is one
abbrev pub size_at : Option SortItem → ℕ
size_at None = 0
size_at (Some item) = item_size item

-- how many constants a sort has, by its number
abbrev pub sort_size : Agent → ℕ → ℕ
sort_size agent sort = size_at (slice_get agent.sorts sort)

-- how many lists of arguments there are, by the sizes of their sorts
abbrev pub product : List ℕ → ℕ
product [] = 1
product (n ∷ ns) = n * product ns

-- the place of arguments among all of these sizes, the last varying fastest
abbrev pub place_of : List ℕ → List ℕ → ℕ
place_of [] args = 0
place_of (n ∷ ns) [] = 0
place_of (n ∷ ns) (a ∷ args) = a * product ns + place_of ns args

-- as many arguments as sorts, each a constant of its own, by the sizes of the sorts
abbrev pub AreWithin : List ℕ → List ℕ → Type 0
AreWithin [] [] = ⊤
AreWithin [] (a ∷ args) = ⊥
AreWithin (n ∷ ns) [] = ⊥
AreWithin (n ∷ ns) (a ∷ args) = (a < n) × AreWithin ns args

-- the sizes of these sorts
abbrev pub sizes : Agent → List ℕ → List ℕ
sizes agent sorts = map (sort_size agent) sorts

-- the sorts of the arguments of each fluent
abbrev pub fluent_args : Agent → List (List ℕ)
fluent_args agent = map (λ item. item.args) agent.fluents

-- the sorts of the arguments of each action
abbrev pub action_args : Agent → List (List ℕ)
action_args agent = map (λ item. item.args) agent.actions

-- the sorts of the arguments of one item
abbrev pub args_at : List (List ℕ) → ℕ → List ℕ
args_at [] item = []
args_at (args ∷ more) zero = args
args_at (args ∷ more) (suc item) = args_at more item

-- the number of a ground thing: those of the items before it come first
abbrev pub number_of : Agent → List (List ℕ) → ℕ → List ℕ → ℕ
number_of agent items item args =
    sum_by (λ sorts. product (sizes agent sorts)) (take item items)
    + place_of (sizes agent (args_at items item)) args

-- the number of a ground fluent
abbrev pub fluent_no : Agent → ℕ → List ℕ → ℕ
fluent_no agent = number_of agent (fluent_args agent)

-- the number of a ground action
abbrev pub action_no : Agent → ℕ → List ℕ → ℕ
action_no agent = number_of agent (action_args agent)

-- an item and its arguments
abbrev pub Ground : Type 0
Ground = ℕ × List ℕ

-- the arguments at a place among all of these sizes, the last varying fastest
abbrev pub args_of : List ℕ → ℕ → List ℕ
args_of [] place = []
args_of (n ∷ ns) place = (place / product ns) % n ∷ args_of ns place

-- the ground things of the items from this one on, in the order of their numbers
abbrev pub all_from : Agent → ℕ → List (List ℕ) → List Ground
all_from agent item [] = []
all_from agent item (sorts ∷ items) =
    map (λ place. (item, args_of (sizes agent sorts) place)) (range_with_len 0 (product (sizes agent sorts)))
    ++ all_from agent (item + 1) items

-- the ground fluents in the order of their numbers
abbrev pub ground_fluents : Agent → List Ground
ground_fluents agent = all_from agent 0 (fluent_args agent)

-- the ground actions in the order of their numbers
abbrev pub ground_actions : Agent → List Ground
ground_actions agent = all_from agent 0 (action_args agent)

-- how many ground things there are, by the sorts of the arguments of each item
abbrev pub ground_count : Agent → List (List ℕ) → ℕ
ground_count agent items = sum_by (λ sorts. product (sizes agent sorts)) items

-- how many ground things the items before each of these have
abbrev pub firsts_of : Agent → List (List ℕ) → List ℕ
firsts_of agent items = map (λ item. ground_count agent (take item items)) (range_with_len 0 (length items))

-- the agent, where each sort has its size, and each item the number of its first ground thing
abbrev pub numbered : Agent → Agent
numbered agent = record agent {
  firsts = record {
    sizes = map item_size agent.sorts;
    fluents = firsts_of agent (fluent_args agent);
    actions = firsts_of agent (action_args agent);
  };
}

-- Sorts have few enough constants, items few enough arguments, and items and ground things are few
-- enough, that each ground thing has its number; each sort has its size, and each item the number of its first one.
pub record IsCountable (agent : Agent) : Type 0 where
  pub sorts : All (λ item. item_size item ≤ 255) agent.sorts
  pub fluent_arities : All (λ args. length args ≤ 3) (fluent_args agent)
  pub action_arities : All (λ args. length args ≤ 3) (action_args agent)
  pub fluents : length agent.fluents ≤ 4096
  pub actions : length agent.actions ≤ 65536
  pub ground_fluents : ground_count agent (fluent_args agent) ≤ 4096
  pub ground_actions : ground_count agent (action_args agent) ≤ 65536
  pub sizes : agent.firsts.sizes ≡ map item_size agent.sorts
  pub first_fluents : agent.firsts.fluents ≡ firsts_of agent (fluent_args agent)
  pub first_actions : agent.firsts.actions ≡ firsts_of agent (action_args agent)
