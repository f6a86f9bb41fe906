-- Start values of a draft, item by item, and those of the ground fluents.
use Rattle.std.specs.Prelude.{ℕ, ◌==◌, ◌&&◌, nat_eq, if◌then◌else◌, Option, Some, None, Result, Ok, Err, List, [], ◌∷◌, map, unwrap_or}
use Rattle.std.specs.Cmp.Lexicographic.{pointwise}
use Rattle.golog_tree.specs.declared.cond.Arg.{Arg}
use Rattle.golog_tree.specs.declared.cond.Arg.TheVariants.{Const, Var}
use Rattle.golog_tree.specs.declared.draft.DraftStart.{DraftStart}
use Rattle.golog_tree.specs.declared.draft.DraftStart.TheVariants.{Each, One}
use Rattle.golog_tree.specs.declared.draft_cond.DraftArg.{DraftArg}
use Rattle.golog_draft.specs.DraftPlaces.{arg_place}
use Rattle.golog_rows.specs.Reading.{Reading, gives, ◌>>=◌, found}
use Rattle.golog_semantics.specs.Truth.{unknown}
use Rattle.golog_check.specs.declared.starts.Start.{Start}
use Rattle.golog_check.specs.declared.starts.Start.TheVariants as start
use Rattle.golog_check.specs.Codes.{BAD_START}
use Rattle.golog_check.specs.DeclaredItems.{Declared}
use Rattle.golog_check.specs.Sorts.{fluent_sort, fluent_sorts}
use Rattle.golog_rows.specs.Least.{CodeAt}
use Rattle.golog_check.specs.Terms.{arg_in, args_in}

-- the constant that an argument is
abbrev pub constant_of : Arg → Option ℕ
constant_of (Const c) = Some c
constant_of (Var x) = None

-- the constant that an argument was found to be
abbrev pub constant_in : Result Arg CodeAt → Option ℕ
constant_in (Ok arg) = constant_of arg
constant_in (Err refusal) = None

-- arguments of a ground fluent, which are constants
abbrev pub constant : Arg → ℕ
constant arg = unwrap_or (constant_of arg) 0

module _ (names : Declared) where
  -- a start value in a place of the sort, unknown where there is none
  unfoldable pub value_in : ℕ → Option DraftArg → Reading ℕ
  value_in sort None = gives unknown
  value_in sort (Some arg) = found BAD_START (arg_place arg) (constant_in (arg_in names [] sort arg).outcome)

  -- the sort of a fluent that is declared
  abbrev pub own_sort : ℕ → ℕ
  own_sort fluent = unwrap_or (fluent_sort names fluent) 0

  -- the start value of one of a fluent's ground fluents
  unfoldable pub one_in : ℕ → List DraftArg → Option DraftArg → Reading Start
  one_in fluent args value =
      args_in names [] (fluent_sorts names fluent) args >>= λ args.
      value_in (own_sort fluent) value >>= λ value.
      gives (start.One fluent (map constant args) value)

  -- the start value of all of them, or of one
  abbrev pub start_in : DraftStart → Reading Start
  start_in (Each fluent value at) =
      value_in (own_sort fluent) value >>= λ value. gives (start.Each fluent value)
  start_in (One fluent args value at) = one_in fluent args value

-- a ground fluent: its fluent and its arguments
abbrev pub Ground : Type 0
Ground = ℕ × List ℕ

-- The start value is that of the fluent's own item. Where there were several, the last would count.
abbrev pub own_after : ℕ → Start → ℕ → ℕ
own_after own (start.Each item value) fluent = if item == fluent then value else own
own_after own (start.One item args value) fluent = own

abbrev pub own_value : ℕ → List Start → ℕ → ℕ
own_value own [] fluent = own
own_value own (item ∷ items) fluent = own_value (own_after own item fluent) items fluent

abbrev pub one_after : ℕ → Start → Ground → ℕ
one_after before (start.Each item value) at = before
one_after before (start.One item args value) (fluent, at) =
    if item == fluent && pointwise nat_eq args at then value else before

-- the value of the ground fluent's `start` item, and `before` where it has none
abbrev pub one_value : ℕ → List Start → Ground → ℕ
one_value before [] at = before
one_value before (item ∷ items) at = one_value (one_after before item at) items at

-- The start value of a ground fluent: that of its `start` item, else that of its fluent, else unknown.
abbrev pub start_value : List Start → Ground → ℕ
start_value items (fluent, at) = one_value (own_value unknown items fluent) items (fluent, at)
