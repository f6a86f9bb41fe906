-- Agents with equal sorts have the same ground things, with the same numbers.
use Rattle.std.proofs.Common.{◌≡◌, ℕ, ◌+◌, List, [], ◌∷◌, ◌++◌, length, map, refl, ap, ◌∙◌}
use Rattle.std.specs.Prelude.{sum_by, take}
use Rattle.std.specs.List.{range_with_len}
use Rattle.golog_tree.specs.declared.agent.Agent.{Agent}
use Rattle.golog_tree.specs.declared.agent.SortItem.{SortItem}
use Rattle.golog_tree.specs.Ground.{Ground, args_of, all_from, firsts_of}
use Rattle.golog_check.specs.Sums.{size_in, count_in}

-- the ground things of an item with arguments of these sorts
abbrev ground_in : ℕ → List ℕ → List SortItem → List Ground
ground_in item args sorts =
    map (λ place. (item, args_of (map (size_in sorts) args) place)) (range_with_len 0 (count_in sorts args))

module _ (one other : Agent) (same : one.sorts ≡ other.sorts) where
  pub same-ground : (items : List (List ℕ)) (item : ℕ) → all_from one item items ≡ all_from other item items
  same-ground [] item = refl
  same-ground (args ∷ items) item =
      ap (λ (sorts : List SortItem). ground_in item args sorts ++ all_from one (item + 1) items) same
      ∙ ap (λ (rest : List Ground). ground_in item args other.sorts ++ rest) (same-ground items (item + 1))

  pub same-firsts : (items : List (List ℕ)) → firsts_of one items ≡ firsts_of other items
  same-firsts items =
      ap (λ (sorts : List SortItem).
      map (λ item. sum_by (count_in sorts) (take item items)) (range_with_len 0 (length items))) same
