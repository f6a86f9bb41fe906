-- A condition with no free variable can be evaluated.
use Rattle.std.proofs.Common.{ℕ, IsTrue, List}
use Rattle.golog_tree.specs.declared.agent.Agent.{Agent}
use Rattle.golog_tree.specs.declared.cond.Cond.{Cond}
use Rattle.golog_semantics.specs.Fits.{cond_fits, nothing_bound}
use Rattle.golog_known.specs.Fits.{CondFitsAt}
use Rattle.golog_fronts.proofs.Acting.{closed_cond}

pub evaluated : (agent : Agent) (cond : Cond) (env : List ℕ) → IsTrue (cond_fits agent cond nothing_bound)
    → CondFitsAt agent cond env
evaluated agent cond env fits = closed_cond agent cond env fits
