-- Conditions and terms that can be evaluated: they fit the agent, and their variables have values.
use Rattle.std.specs.Prelude.{◌≡◌, ℕ, ◌<◌, IsTrue, Some, List, slice_index}
use Rattle.golog_tree.specs.declared.agent.Agent.{Agent}
use Rattle.golog_tree.specs.declared.cond.Arg.{Arg}
use Rattle.golog_tree.specs.declared.cond.Term.{Term}
use Rattle.golog_tree.specs.declared.cond.Cond.{Cond}
use Rattle.golog_tree.specs.Ground.{sort_size}
use Rattle.golog_semantics.specs.Truth.{Env}
use Rattle.golog_semantics.specs.Fits.{Scope, fluent_fits, term_fits, cond_fits}

-- each variable that is bound has a value of its sort
pub record Sets (agent : Agent) (scope : Scope) (env : Env) : Type 0 where
  pub value : (x sort : ℕ) → scope x ≡ Some sort → slice_index env x < sort_size agent sort

-- a term of the agent, of some sort, whose free variables have values of their sorts
pub record TermFitsAt (agent : Agent) (term : Term) (env : Env) : Type 0 where
  pub scope : Scope
  pub sort : ℕ
  pub fits : IsTrue (term_fits agent term scope sort)
  pub set : Sets agent scope env

-- a condition of the agent, whose free variables have values of their sorts
pub record CondFitsAt (agent : Agent) (cond : Cond) (env : Env) : Type 0 where
  pub scope : Scope
  pub fits : IsTrue (cond_fits agent cond scope)
  pub set : Sets agent scope env

-- a fluent of the agent, of some sort, with arguments of their sorts
pub record FluentFitsAt (agent : Agent) (fluent : ℕ) (args : List Arg) (env : Env) : Type 0 where
  pub scope : Scope
  pub sort : ℕ
  pub fits : IsTrue (fluent_fits agent scope sort fluent args)
  pub set : Sets agent scope env
