-- Arguments, terms and conditions that stay inside the numbers and sorts of an agent.
use Rattle.std.specs.Prelude.{ℕ, suc, Bool, true, false, ◌==◌, nat_lt, ◌&&◌, if◌then◌else◌, Option, Some, None, List, [], ◌∷◌, length, slice_get}
use Rattle.std.specs.List.{list_all}
use Rattle.std.specs.Option.{option_map_or}
use Rattle.golog_tree.specs.declared.agent.Agent.{Agent}
use Rattle.golog_tree.specs.declared.agent.FluentItem.{FluentItem}
use Rattle.golog_tree.specs.declared.agent.SortItem.{SortItem}
use Rattle.golog_tree.specs.declared.agent.SortItem.TheVariants.{Range, Listed}
use Rattle.golog_tree.specs.declared.cond.Arg.{Arg}
use Rattle.golog_tree.specs.declared.cond.Arg.TheVariants.{Const, Var}
use Rattle.golog_tree.specs.declared.cond.Term.{Term}
use Rattle.golog_tree.specs.declared.cond.Cond.{Cond}
use Rattle.golog_tree.specs.declared.cond.Cond.TheOpen.{Term-F, Arg as ArgTerm, Fluent, Shift, Ite}
use Rattle.golog_tree.specs.declared.cond.Cond.TheOpen.{Cond-F, Truth, Is, Equal, Less, AtMost, Not, And, Or, ForSome, ForAll}
use Rattle.golog_tree.specs.declared.cond.Cond.TheFolds.{fold-Cond, fold-Term}
use Rattle.golog_tree.specs.Ground.{sort_size}

-- the sort of each variable that is bound
abbrev pub Scope : Type 0
Scope = ℕ → Option ℕ

-- no variable is bound
abbrev pub nothing_bound : Scope
nothing_bound x = None

-- one more variable is bound, and hides an outer one of its number
abbrev pub bound : Scope → ℕ → ℕ → Scope
bound scope var sort x = if x == var then Some sort else scope x

-- the variables from this one on, of these sorts
abbrev pub bound_from : ℕ → List ℕ → Scope
bound_from n [] x = None
bound_from n (sort ∷ sorts) x = if x == n then Some sort else bound_from (suc n) sorts x

-- how many variables there are
abbrev pub variables : ℕ
variables = 32

-- the sort `bool` is the first
abbrev pub bool_sort : ℕ
bool_sort = 0

-- a sort of whole numbers, and not of names
abbrev pub is_range_item : SortItem → Bool
is_range_item (Range name low high) = true
is_range_item (Listed name constants) = false

module _ (agent : Agent) where
  -- the number of a sort
  abbrev pub is_sort : ℕ → Bool
  is_sort sort = nat_lt sort (length agent.sorts)

  -- a sort of whole numbers
  abbrev pub is_range : ℕ → Bool
  is_range sort = option_map_or is_range_item (slice_get agent.sorts sort) false

  -- a constant of the sort, or a variable that is bound to it
  abbrev pub arg_fits : Scope → ℕ → Arg → Bool
  arg_fits scope sort (Const c) = nat_lt c (sort_size agent sort)
  arg_fits scope sort (Var x) = option_map_or (λ s. s == sort) (scope x) false

  -- as many arguments as sorts, each of its own
  abbrev pub args_fit : Scope → List ℕ → List Arg → Bool
  args_fit scope [] [] = true
  args_fit scope [] (arg ∷ args) = false
  args_fit scope (sort ∷ sorts) [] = false
  args_fit scope (sort ∷ sorts) (arg ∷ args) = arg_fits scope sort arg && args_fit scope sorts args

  -- a fluent into the sort, with its arguments
  abbrev pub fluent_fits : Scope → ℕ → ℕ → List Arg → Bool
  fluent_fits scope sort fluent args =
      let item_fits = λ (item : FluentItem). item.sort == sort && args_fit scope item.args args in
      option_map_or item_fits (slice_get agent.fluents fluent) false

  -- a binder of one of the variables, over a sort
  abbrev pub binder_fits : ℕ → ℕ → Bool
  binder_fits var sort = nat_lt var variables && is_sort sort

  -- a term is of a sort, given its parts
  abbrev pub term_step : Term-F (Scope → Bool) (Scope → ℕ → Bool) → Scope → ℕ → Bool
  term_step (ArgTerm arg) scope sort = arg_fits scope sort arg
  term_step (Fluent fluent args) scope sort = fluent_fits scope sort fluent args
  term_step (Shift own term by) scope sort = own == sort && is_range sort && term scope sort
  term_step (Ite cond one other) scope sort = cond scope && one scope sort && other scope sort

  -- a comparison of two terms of one sort, which for an order is one of whole numbers
  abbrev pub cond_step : Cond-F (Scope → Bool) (Scope → ℕ → Bool) → Scope → Bool
  cond_step (Truth b) scope = true
  cond_step (Is fluent args) scope = fluent_fits scope bool_sort fluent args
  cond_step (Equal sort one other) scope = is_sort sort && one scope sort && other scope sort
  cond_step (Less sort one other) scope = is_range sort && one scope sort && other scope sort
  cond_step (AtMost sort one other) scope = is_range sort && one scope sort && other scope sort
  cond_step (Not c) scope = c scope
  cond_step (And cs) scope = list_all (λ c. c scope) cs
  cond_step (Or cs) scope = list_all (λ c. c scope) cs
  cond_step (ForSome var sort c) scope = binder_fits var sort && c (bound scope var sort)
  cond_step (ForAll var sort c) scope = binder_fits var sort && c (bound scope var sort)

  -- the term is of the sort, its variables being bound to theirs
  abbrev pub term_fits : Term → Scope → ℕ → Bool
  term_fits = fold-Term (Scope → Bool) (Scope → ℕ → Bool) cond_step term_step

  -- each term in the condition is of its place's sort, and each variable is bound
  abbrev pub cond_fits : Cond → Scope → Bool
  cond_fits = fold-Cond (Scope → Bool) (Scope → ℕ → Bool) cond_step term_step
