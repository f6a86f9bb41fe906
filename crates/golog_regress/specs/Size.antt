-- How many nodes a condition has.
use Rattle.std.specs.Prelude.{ℕ, ◌+◌, sum}
use Rattle.golog_tree.specs.declared.cond.Term.{Term}
use Rattle.golog_tree.specs.declared.cond.Cond.{Cond}
use Rattle.golog_tree.specs.declared.cond.Cond.TheOpen.{Term-F, Arg, Fluent, Shift, Ite}
use Rattle.golog_tree.specs.declared.cond.Cond.TheOpen.{Cond-F, Truth, Is, Equal, Less, AtMost, Not, And, Or, ForSome, ForAll}
use Rattle.golog_tree.specs.declared.cond.Cond.TheFolds.{fold-Cond, fold-Term}

-- a term is a node, and so is each of its parts
abbrev pub term_step : Term-F ℕ ℕ → ℕ
term_step (Arg arg) = 1
term_step (Fluent fluent args) = 1
term_step (Shift sort t by) = 1 + t
term_step (Ite c t u) = 1 + c + t + u

-- a condition is a node, and so is each of its parts
abbrev pub cond_step : Cond-F ℕ ℕ → ℕ
cond_step (Truth b) = 1
cond_step (Is fluent args) = 1
cond_step (Equal sort t u) = 1 + t + u
cond_step (Less sort t u) = 1 + t + u
cond_step (AtMost sort t u) = 1 + t + u
cond_step (Not c) = 1 + c
cond_step (And cs) = 1 + sum cs
cond_step (Or cs) = 1 + sum cs
cond_step (ForSome var sort c) = 1 + c
cond_step (ForAll var sort c) = 1 + c

-- the nodes of a term
abbrev pub term_nodes : Term → ℕ
term_nodes = fold-Term ℕ ℕ cond_step term_step

-- the nodes of a condition
abbrev pub nodes : Cond → ℕ
nodes = fold-Cond ℕ ℕ cond_step term_step
