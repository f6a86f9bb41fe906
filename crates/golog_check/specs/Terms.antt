-- What an argument or a term of a draft is, in a place of some sort.
use Rattle.std.specs.Prelude.{ℕ, not, ◌==◌, ◌&&◌, if◌then◌else◌, Bool, true, false, Option, Some, None, List, [], length, slice_get, option_map}
use Rattle.golog_tree.specs.declared.cond.Arg.{Arg}
use Rattle.golog_tree.specs.declared.cond.Arg.TheVariants.{Const}
use Rattle.golog_tree.specs.declared.cond.Term.{Term}
use Rattle.golog_tree.specs.declared.cond.Term.TheVariants as term
use Rattle.golog_tree.specs.declared.draft_cond.DraftArg.{DraftArg}
use Rattle.golog_tree.specs.declared.draft_cond.DraftArg.TheVariants.{Word, Number}
use Rattle.golog_tree.specs.declared.draft_cond.DraftTerm.{DraftTerm}
use Rattle.golog_tree.specs.declared.draft_cond.DraftTerm.TheOpen.{DraftTerm-F, Arg as ArgTerm, Fluent, Shift}
use Rattle.golog_tree.specs.declared.draft_cond.DraftTerm.TheFolds.{fold-DraftTerm}
use Rattle.golog_draft.specs.DraftPlaces.{arg_place}
use Rattle.golog_rows.specs.Reading.{Reading, gives, row, ◌>>=◌, found, each}
use Rattle.golog_check.specs.declared.scope.Meant.{Meant}
use Rattle.golog_check.specs.declared.terms.Comparison.{Comparison}
use Rattle.golog_check.specs.declared.terms.Comparison.TheVariants.{Equal, Order}
use Rattle.golog_check.specs.declared.terms.Sides.{Sides}
use Rattle.golog_check.specs.Codes.{SORT_CLASH, UNBOUND}
use Rattle.golog_check.specs.DeclaredItems.{Declared}
use Rattle.golog_check.specs.Sorts.{number_in, is_range, fluent_sort, fluent_sorts}
use Rattle.golog_check.specs.Scope.{Scope, meaning}

-- a comparison is by the order of whole numbers
abbrev pub is_by_order : Comparison → Bool
is_by_order Equal = false
is_by_order Order = true

-- a sort is shown, and it is another
abbrev pub is_other : Option ℕ → ℕ → Bool
is_other None sort = false
is_other (Some own) sort = not (own == sort)

abbrev pub place_step : DraftTerm-F ℕ → ℕ
place_step (ArgTerm arg) = arg_place arg
place_step (Fluent fluent args at) = at
place_step (Shift term by at) = at

-- where a term begins
abbrev pub term_place : DraftTerm → ℕ
term_place = fold-DraftTerm ℕ place_step

-- the sort that two terms show, where one does, and the other the same or none
abbrev pub common : Option ℕ → Option ℕ → Option ℕ
common None other = other
common (Some one) None = Some one
common (Some one) (Some other) = if one == other then Some one else None

module _ (names : Declared) (scope : Scope) where
  -- the sort that an argument shows: that of a variable or a listed constant
  abbrev pub arg_sort : DraftArg → Option ℕ
  arg_sort (Word word at) = option_map (λ (meant : Meant). meant.sort) (meaning names scope word at)
  arg_sort (Number number at) = None

  -- a word or a number, which takes the sort
  abbrev pub arg_as : ℕ → DraftArg → Reading Arg
  arg_as sort (Word word at) =
      found UNBOUND at (option_map (λ (meant : Meant). meant.arg) (meaning names scope word at))
  arg_as sort (Number number at) = found SORT_CLASH at (option_map Const (number_in names sort number))

  -- an argument in a place of the sort
  unfoldable pub arg_in : ℕ → DraftArg → Reading Arg
  arg_in sort arg = row (is_other (arg_sort arg) sort) SORT_CLASH (arg_place arg) (arg_as sort arg)

  -- the next argument, which is in the place of the next sort
  unfoldable pub next_arg : List ℕ → List Arg → DraftArg → Reading Arg
  next_arg sorts before arg =
      found SORT_CLASH (arg_place arg) (slice_get sorts (length before)) >>= λ sort. arg_in sort arg

  -- the arguments in places of these sorts
  abbrev pub args_in : List ℕ → List DraftArg → Reading (List Arg)
  args_in sorts args = each (next_arg sorts) [] args

  abbrev pub sort_step : DraftTerm-F (Option ℕ) → Option ℕ
  sort_step (ArgTerm arg) = arg_sort arg
  sort_step (Fluent fluent args at) = fluent_sort names fluent
  sort_step (Shift term by at) = term

  -- the sort that a term shows: that of the fluent, the variable or the listed constant that it holds
  abbrev pub term_sort : DraftTerm → Option ℕ
  term_sort = fold-DraftTerm (Option ℕ) sort_step

  -- a term that takes the sort, given its part
  abbrev pub as_step : DraftTerm-F (ℕ → Reading Term) → ℕ → Reading Term
  as_step (ArgTerm arg) sort = arg_as sort arg >>= λ arg. gives (term.Arg arg)
  as_step (Fluent fluent args at) sort =
      args_in (fluent_sorts names fluent) args >>= λ args. gives (term.Fluent fluent args)
  as_step (Shift t by at) sort =
      row (not (is_range names sort)) SORT_CLASH at (t sort >>= λ t. gives (term.Shift sort t by))

  -- a term that takes the sort: it shows this sort or none
  abbrev pub term_as : DraftTerm → ℕ → Reading Term
  term_as = fold-DraftTerm (ℕ → Reading Term) as_step

  -- a term in a place of the sort
  unfoldable pub term_in : ℕ → DraftTerm → Reading Term
  term_in sort draft = row (is_other (term_sort draft) sort) SORT_CLASH (term_place draft) (term_as draft sort)

  -- The two sides of a comparison, which is of their sort. An order is one of whole numbers.
  unfoldable pub sides_in : Bool → DraftTerm → DraftTerm → Reading Sides
  sides_in is_order one other =
      found SORT_CLASH (term_place one) (common (term_sort one) (term_sort other)) >>= λ sort.
      row (is_order && not (is_range names sort)) SORT_CLASH (term_place one)
      (term_as one sort >>= λ one.
      term_as other sort >>= λ other.
      gives (record { sort = sort; one = one; other = other }))
