-- Words and numbers as constants of sorts.
use Rattle.std.specs.Prelude.{ℕ, ℤ, ◌-ℤ◌, int_lt, nat_eq, nat_le, not, ◌&&◌, if◌then◌else◌, Bool, true, false, Option, Some, None, List, [], position, slice_get, option_map, option_and_then, unwrap_or}
use Rattle.std.specs.List.{list_any, enumerate_from}
use Rattle.std.specs.Option.{option_map_or}
use lib.Pointwise.{pointwise}
use Rattle.golog_tree.specs.declared.agent.SortItem.{SortItem}
use Rattle.golog_tree.specs.declared.agent.SortItem.TheVariants.{Range, Listed}
use Rattle.golog_tree.specs.declared.agent.FluentItem.{FluentItem}
use Rattle.golog_tree.specs.declared.agent.ActionItem.{ActionItem}
use Rattle.golog_tree.specs.declared.cond.Arg.TheVariants.{Const}
use Rattle.golog_tree.specs.Ground.{to_count}
use Rattle.golog_semantics.specs.Fits.{is_range_item}
use Rattle.golog_check.specs.declared.scope.Meant.{Meant}
use Rattle.golog_check.specs.DeclaredItems.{Declared}

abbrev pub same : List ℕ → List ℕ → Bool
same one other = pointwise nat_eq one other

-- the names that a sort lists
abbrev pub constants_of : SortItem → List (List ℕ)
constants_of (Range name low high) = []
constants_of (Listed name constants) = constants

-- the sort lists the word
abbrev pub lists : List ℕ → SortItem → Bool
lists word item = list_any (same word) (constants_of item)

-- the place of a word among the names that a sort lists
abbrev pub place_of_word : List ℕ → SortItem → Option ℕ
place_of_word word item = position (same word) (constants_of item)

-- the place of a number among those of a range
abbrev pub place_of_number : ℤ → SortItem → Option ℕ
place_of_number number (Range name low high) =
    if not (int_lt number low) && not (int_lt high number) then Some (to_count (number -ℤ low)) else None
place_of_number number (Listed name constants) = None

module _ (names : Declared) where
  -- the sort with this number is declared before the place
  abbrev pub is_declared : ℕ → ℕ → Bool
  is_declared at sort = option_map_or (λ place. nat_le place at) (slice_get names.places sort) true

  -- the sort lists the word, and is declared before the place
  abbrev pub lists_before : List ℕ → ℕ → ℕ × SortItem → Bool
  lists_before word at sort = is_declared at sort.0 && lists word sort.1

  -- the number of that sort
  abbrev pub listing : List ℕ → ℕ → Option ℕ
  listing word at = position (lists_before word at) (enumerate_from 0 names.sorts)

  -- the word as a constant of the sort
  abbrev pub constant_of : List ℕ → ℕ → Option Meant
  constant_of word sort =
      option_map (λ place. record { arg = Const place; sort = sort })
      (option_and_then (place_of_word word) (slice_get names.sorts sort))

  -- the word as a constant that an item before the place declares
  unfoldable pub constant : List ℕ → ℕ → Option Meant
  constant word at = option_and_then (constant_of word) (listing word at)

  -- the place of a number in a sort
  abbrev pub number_in : ℕ → ℤ → Option ℕ
  number_in sort number = option_and_then (place_of_number number) (slice_get names.sorts sort)

  -- a sort of whole numbers
  abbrev pub is_range : ℕ → Bool
  is_range sort = option_map_or is_range_item (slice_get names.sorts sort) false

  -- the sort of a fluent
  abbrev pub fluent_sort : ℕ → Option ℕ
  fluent_sort fluent = option_map (λ (item : FluentItem). item.sort) (slice_get names.fluents fluent)

  -- the sorts of the arguments of a fluent, an action, a procedure
  abbrev pub fluent_sorts : ℕ → List ℕ
  fluent_sorts fluent = option_map_or (λ (item : FluentItem). item.args) (slice_get names.fluents fluent) []

  abbrev pub action_sorts : ℕ → List ℕ
  action_sorts action = option_map_or (λ (item : ActionItem). item.args) (slice_get names.actions action) []

  abbrev pub param_sorts : ℕ → List ℕ
  param_sorts item = unwrap_or (slice_get names.params item) []
