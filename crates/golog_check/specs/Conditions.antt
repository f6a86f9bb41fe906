-- What a condition of a draft is.
use Rattle.std.specs.Prelude.{ℕ, true, false, List, []}
use Rattle.golog_tree.specs.declared.cond.Arg.{Arg}
use Rattle.golog_tree.specs.declared.cond.Cond.{Cond}
use Rattle.golog_tree.specs.declared.cond.Cond.TheVariants as cond
use Rattle.golog_tree.specs.declared.draft_cond.DraftArg.{DraftArg}
use Rattle.golog_tree.specs.declared.draft_cond.DraftCond.{DraftCond}
use Rattle.golog_tree.specs.declared.draft_cond.DraftCond.TheOpen.{DraftCond-F, Truth, Is, Equal, Less, AtMost, Not, And, Or, ForSome, ForAll}
use Rattle.golog_tree.specs.declared.draft_cond.DraftCond.TheFolds.{fold-DraftCond}
use Rattle.golog_semantics.specs.Fits.{bool_sort}
use Rattle.golog_rows.specs.Reading.{Reading, gives, row, ◌>>=◌, each}
use Rattle.golog_check.specs.declared.terms.Sides.{Sides}
use Rattle.golog_check.specs.Codes.{SORT_CLASH}
use Rattle.golog_check.specs.DeclaredItems.{Declared}
use Rattle.golog_check.specs.Sorts.{fluent_sort, fluent_sorts}
use Rattle.golog_check.specs.Scope.{Scope, variable_no, within}
use Rattle.golog_check.specs.Terms.{is_other, args_in, sides_in}

-- what a condition is, in any scope
abbrev pub InScope : Type 0
InScope = Scope → Reading Cond

-- conditions, one after another, behind those before them
abbrev pub conds_after : List Cond → Scope → List InScope → Reading (List Cond)
conds_after before scope conds = each (λ _ (cond : InScope). cond scope) before conds

abbrev pub conds_in : Scope → List InScope → Reading (List Cond)
conds_in scope conds = conds_after [] scope conds

module _ (names : Declared) where
  -- the arguments of a fluent that stands as a condition, and so in a place of the sort `bool`
  unfoldable pub is_in : Scope → ℕ → List DraftArg → ℕ → Reading (List Arg)
  is_in scope fluent args at =
      row (is_other (fluent_sort names fluent) bool_sort) SORT_CLASH at
      (args_in names scope (fluent_sorts names fluent) args)

  -- a condition in a scope, given its parts
  abbrev pub cond_step : DraftCond-F InScope → InScope
  cond_step (Truth truth at) scope = gives (cond.Truth truth)
  cond_step (Is fluent args at) scope = is_in scope fluent args at >>= λ args. gives (cond.Is fluent args)
  cond_step (Equal one other at) scope =
      sides_in names scope false one other >>= λ (sides : Sides).
      gives (cond.Equal sides.sort sides.one sides.other)
  cond_step (Less one other at) scope =
      sides_in names scope true one other >>= λ (sides : Sides).
      gives (cond.Less sides.sort sides.one sides.other)
  cond_step (AtMost one other at) scope =
      sides_in names scope true one other >>= λ (sides : Sides).
      gives (cond.AtMost sides.sort sides.one sides.other)
  cond_step (Not c at) scope = c scope >>= λ c. gives (cond.Not c)
  cond_step (And cs at) scope = conds_in scope cs >>= λ cs. gives (cond.And cs)
  cond_step (Or cs at) scope = conds_in scope cs >>= λ cs. gives (cond.Or cs)
  cond_step (ForSome var sort c at) scope =
      c (within var sort scope) >>= λ c. gives (cond.ForSome (variable_no scope) sort c)
  cond_step (ForAll var sort c at) scope =
      c (within var sort scope) >>= λ c. gives (cond.ForAll (variable_no scope) sort c)

  -- what a condition is
  abbrev pub cond_in : DraftCond → InScope
  cond_in = fold-DraftCond InScope cond_step
