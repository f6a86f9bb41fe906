-- Which ground fluents a condition may read, whatever the values of its variables.
use Rattle.std.specs.Prelude.{ℕ, Bool, true, false, ◌==◌, ◌&&◌, ◌||◌, List, [], ◌∷◌, slice_get}
use Rattle.std.specs.List.{list_any}
use Rattle.std.specs.Option.{option_map_or}
use Rattle.golog_tree.specs.declared.agent.Agent.{Agent}
use Rattle.golog_tree.specs.declared.cond.Arg.{Arg}
use Rattle.golog_tree.specs.declared.cond.Arg.TheVariants.{Const, Var}
use Rattle.golog_tree.specs.declared.cond.Term.{Term}
use Rattle.golog_tree.specs.declared.cond.Cond.{Cond}
use Rattle.golog_tree.specs.declared.cond.Cond.TheOpen.{Term-F, Arg as ArgTerm, Fluent, Shift, Ite}
use Rattle.golog_tree.specs.declared.cond.Cond.TheOpen.{Cond-F, Truth, Is, Equal, Less, AtMost, Not, And, Or, ForSome, ForAll}
use Rattle.golog_tree.specs.declared.cond.Cond.TheFolds.{fold-Cond, fold-Term}
use Rattle.golog_tree.specs.Ground.{ground_fluents}

-- the argument may have the value: it is that constant, or a variable
abbrev pub may_be : Arg → ℕ → Bool
may_be (Const c) v = c == v
may_be (Var x) v = true

-- so may each of these arguments
abbrev pub may_all_be : List Arg → List ℕ → Bool
may_all_be [] vs = true
may_all_be (arg ∷ args) [] = true
may_all_be (arg ∷ args) (v ∷ vs) = may_be arg v && may_all_be args vs

module _ (fluent : ℕ) (given : List ℕ) where
  -- a term may read the fluent at these arguments, given whether its parts may
  abbrev pub term_step : Term-F Bool Bool → Bool
  term_step (ArgTerm arg) = false
  term_step (Fluent f args) = f == fluent && may_all_be args given
  term_step (Shift sort t by) = t
  term_step (Ite c t u) = c || t || u

  -- a condition may read it, given whether its parts may
  abbrev pub cond_step : Cond-F Bool Bool → Bool
  cond_step (Truth b) = false
  cond_step (Is f args) = f == fluent && may_all_be args given
  cond_step (Equal sort t u) = t || u
  cond_step (Less sort t u) = t || u
  cond_step (AtMost sort t u) = t || u
  cond_step (Not c) = c
  cond_step (And cs) = list_any (λ c. c) cs
  cond_step (Or cs) = list_any (λ c. c) cs
  cond_step (ForSome var sort c) = c
  cond_step (ForAll var sort c) = c

  -- a term may read the fluent at these arguments
  abbrev pub term_reads : Term → Bool
  term_reads = fold-Term Bool Bool cond_step term_step

  -- a condition may read the fluent at these arguments
  abbrev pub reads : Cond → Bool
  reads = fold-Cond Bool Bool cond_step term_step

-- a condition may read a ground fluent, by its number
abbrev pub may_read : Agent → Cond → ℕ → Bool
may_read agent c fluent = option_map_or (λ at. reads at.0 at.1 c) (slice_get (ground_fluents agent) fluent) false
