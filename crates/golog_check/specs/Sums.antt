-- The running sums of ground fluents and of ground actions.
use Rattle.std.specs.Prelude.{ℕ, ◌+◌, ◌≤◌, nat_lt, List, [], ◌∷◌, length, map, All, slice_get}
use Rattle.golog_tree.specs.declared.agent.SortItem.{SortItem}
use Rattle.golog_tree.specs.declared.draft.DraftTheory.{DraftTheory}
use Rattle.golog_tree.specs.declared.draft.DraftFluent.{DraftFluent}
use Rattle.golog_tree.specs.declared.draft.DraftAction.{DraftAction}
use Rattle.golog_tree.specs.Ground.{item_size, size_at, product}
use Rattle.golog_rows.specs.Reading.{Reading, gives, row}
use Rattle.golog_check.specs.Codes.{GROUND_TOO_MANY}
use Rattle.golog_check.specs.Limits.{GROUND_FLUENTS, GROUND_ACTIONS}
use Rattle.golog_check.specs.DeclaredItems.{sort_item}

-- how many constants a sort has
abbrev pub size_in : List SortItem → ℕ → ℕ
size_in sorts sort = size_at (slice_get sorts sort)

-- how many ground things there are of an item with arguments of these sorts
abbrev pub count_in : List SortItem → List ℕ → ℕ
count_in sorts args = product (map (size_in sorts) args)

-- the sorts of the arguments of an item, and its place
abbrev pub Counted : Type 0
Counted = List ℕ × ℕ

-- From a sum on, each item adds its ground things. It is refused where the sum passes the limit.
abbrev pub sum_from : List SortItem → ℕ → ℕ → List Counted → Reading (Unit {0})
sum_from sorts limit sum [] = gives tt
sum_from sorts limit sum ((args, at) ∷ items) =
    row (nat_lt limit (sum + count_in sorts args)) GROUND_TOO_MANY at
    (sum_from sorts limit (sum + count_in sorts args) items)

abbrev pub fluent_counted : DraftFluent → Counted
fluent_counted item = (item.args, item.at)

abbrev pub action_counted : DraftAction → Counted
action_counted item = (item.args, item.at)

-- the sums of a theory, what is built in among them
abbrev pub fluent_sum : DraftTheory → Reading (Unit {0})
fluent_sum theory = sum_from (map sort_item theory.sorts) GROUND_FLUENTS 0 (map fluent_counted theory.fluents)

abbrev pub action_sum : DraftTheory → Reading (Unit {0})
action_sum theory = sum_from (map sort_item theory.sorts) GROUND_ACTIONS 0 (map action_counted theory.actions)

-- sorts have at most 255 constants
abbrev pub AreSmall : List SortItem → Type 0
AreSmall sorts = All (λ item. item_size item ≤ 255) sorts

-- items have at most three arguments
abbrev pub HaveFewArgs : List Counted → Type 0
HaveFewArgs items = All (λ item. length item.0 ≤ 3) items
