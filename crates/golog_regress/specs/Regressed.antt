-- A condition over the situation after an action, taken back to the situation before it: each fluent becomes what
-- the causes make of it (regression, Reiter 2001).
use Rattle.std.specs.Prelude.{nat_lt, List}
use Rattle.golog_tree.specs.declared.agent.Agent.{Agent}
use Rattle.golog_tree.specs.declared.agent.CauseItem.{CauseItem}
use Rattle.golog_tree.specs.declared.cond.Arg.{Arg}
use Rattle.golog_tree.specs.declared.cond.Arg.TheVariants.{Const, Var}
use Rattle.golog_tree.specs.declared.cond.Term.{Term}
use Rattle.golog_tree.specs.declared.cond.Term.TheVariants as term
use Rattle.golog_tree.specs.declared.cond.Cond.{Cond}
use Rattle.golog_tree.specs.declared.cond.Cond.TheVariants as cond
use Rattle.golog_tree.specs.declared.cond.Cond.TheOpen.{Term-F, Arg as ArgTerm, Fluent, Shift, Ite}
use Rattle.golog_tree.specs.declared.cond.Cond.TheOpen.{Cond-F, Truth, Is, Equal, Less, AtMost, Not, And, Or, ForSome, ForAll}
use Rattle.golog_tree.specs.declared.cond.Cond.TheViews.{out-Term}
use Rattle.golog_tree.specs.declared.cond.Cond.TheFolds.{fold-Cond, fold-Term}
use Rattle.golog_semantics.specs.Fits.{bool_sort}
use Rattle.golog_regress.specs.declared.happened.Happened.{Happened}
use Rattle.golog_regress.specs.Causes.{chain}

-- a constant is true but for the first one
abbrev pub arg_is_true : Arg → Cond
arg_is_true (Const c) = cond.Truth (nat_lt 0 c)
arg_is_true (Var x) = cond.Not (cond.Equal bool_sort (term.Arg (Var x)) (term.Arg (Const 0)))

-- a term of sort `bool` is true, given its outermost part
abbrev pub layer_is_true : Term-F Cond Term → Term → Cond
layer_is_true (ArgTerm arg) t = arg_is_true arg
layer_is_true (Fluent fluent args) t = cond.Is fluent args
layer_is_true _ t = cond.Not (cond.Equal bool_sort t (term.Arg (Const 0)))

-- a term of sort `bool` is true
abbrev pub is_true : Term → Cond
is_true t = layer_is_true (out-Term t) t

module _ (agent : Agent) (happened : Happened) (causes : List CauseItem) where
  -- a term taken back, given its parts so
  abbrev pub term_step : Term-F Cond Term → Term
  term_step (ArgTerm arg) = term.Arg arg
  term_step (Fluent fluent args) = chain agent happened causes fluent args
  term_step (Shift sort t by) = term.Shift sort t by
  term_step (Ite c t u) = term.Ite c t u

  -- a condition taken back, given its parts so
  abbrev pub cond_step : Cond-F Cond Term → Cond
  cond_step (Truth b) = cond.Truth b
  cond_step (Is fluent args) = is_true (chain agent happened causes fluent args)
  cond_step (Equal sort t u) = cond.Equal sort t u
  cond_step (Less sort t u) = cond.Less sort t u
  cond_step (AtMost sort t u) = cond.AtMost sort t u
  cond_step (Not c) = cond.Not c
  cond_step (And cs) = cond.And cs
  cond_step (Or cs) = cond.Or cs
  cond_step (ForSome var sort c) = cond.ForSome var sort c
  cond_step (ForAll var sort c) = cond.ForAll var sort c

  abbrev pub term_back : Term → Term
  term_back = fold-Term Cond Term cond_step term_step

  abbrev pub cond_back : Cond → Cond
  cond_back = fold-Cond Cond Term cond_step term_step
