-- Laws of conditions and terms whose variables are set to arguments.
use Rattle.std.specs.Prelude.{ℕ, IsTrue, List}
use Rattle.golog_tree.specs.declared.agent.Agent.{Agent}
use Rattle.golog_tree.specs.declared.cond.Term.{Term}
use Rattle.golog_tree.specs.declared.cond.Cond.{Cond}
use Rattle.golog_tree.specs.Ground.{AreWithin, sizes}
use Rattle.golog_semantics.specs.Truth.{env_of}
use Rattle.golog_semantics.specs.Fits.{bound_from, cond_fits, term_fits}
use Rattle.golog_known.specs.Fits.{CondFitsAt, TermFitsAt}

-- A condition that fits the agent, where its first variables are of these sorts, can be evaluated where they
-- are set to arguments in their sorts.
abbrev pub ConditionsFitAtArguments : Type 0
ConditionsFitAtArguments =
    (agent : Agent) (cond : Cond) (sorts args : List ℕ) → IsTrue (cond_fits agent cond (bound_from 0 sorts))
    → AreWithin (sizes agent sorts) args → CondFitsAt agent cond (env_of args)

-- and so can a term
abbrev pub TermsFitAtArguments : Type 0
TermsFitAtArguments =
    (agent : Agent) (term : Term) (sorts args : List ℕ) (sort : ℕ)
    → IsTrue (term_fits agent term (bound_from 0 sorts) sort) → AreWithin (sizes agent sorts) args
    → TermFitsAt agent term (env_of args)
