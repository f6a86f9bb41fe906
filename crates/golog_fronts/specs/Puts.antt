-- Arguments put into a condition.
use Rattle.std.specs.Prelude.{ℕ, ◌+◌, Some, List, [], ◌∷◌}
use Rattle.golog_tree.specs.declared.cond.Arg.{Arg}
use Rattle.golog_tree.specs.declared.cond.Arg.TheVariants.{Const, Var}
use Rattle.golog_tree.specs.declared.cond.Cond.{Cond}
use Rattle.golog_tree.specs.Substitute.{cond_put}

-- the condition with the argument put in for the variable, where it is a constant
abbrev pub cond_put_one : Cond → ℕ → Arg → Cond
cond_put_one c var (Const value) = cond_put c (Some (var, value))
cond_put_one c var (Var x) = c

-- the condition with constants put in for the variables from this one on
abbrev pub cond_put_args : Cond → ℕ → List Arg → Cond
cond_put_args c var [] = c
cond_put_args c var (arg ∷ args) = cond_put_args (cond_put_one c var arg) (var + 1) args
