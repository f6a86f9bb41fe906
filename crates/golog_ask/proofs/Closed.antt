-- A condition with no free variable can be evaluated.
use Rattle.std.proofs.Common.{ℕ, IsTrue, List}
use Rattle.golog_tree.specs.declared.agent.Agent.{Agent}
use Rattle.golog_tree.specs.declared.cond.Cond.{Cond}
use Rattle.golog_semantics.specs.Fits.{cond_fits, nothing_bound}
use Rattle.golog_known.specs.Fits.{CondFitsAt, Sets}

nothing-set : (agent : Agent) (env : List ℕ) → Sets agent nothing_bound env
nothing-set agent env = record { value = λ x sort e. absurd cc }

pub closed : (agent : Agent) (cond : Cond) (env : List ℕ) → IsTrue (cond_fits agent cond nothing_bound)
    → CondFitsAt agent cond env
closed agent cond env fits = record { scope = nothing_bound; fits = fits; set = nothing-set agent env }
