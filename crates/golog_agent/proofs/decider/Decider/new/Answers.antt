use Rattle.std.proofs.Common.{false, true, subst}
use Rattle.std.specs.Prelude.{IfOk}
use Rattle.golog_tree.specs.declared.agent.Agent.{Agent}
use Rattle.golog_watch.specs.Watched.{AreWatches}
use Rattle.golog_agent.proofs.decider.Decider.new.Goals as goal

pub invariant_of-result : goal.invariant_of-result
invariant_of-result c = (
  λ e. absurd (cc),
  tt,
  subst (λ r. IfOk r (λ ws. (agent : Agent) → AreWatches agent ws)) c.in_ok-state.ensures.parts.1 c.new.ensures c.args.agent.now,
  c.ready_of.ensures,
)
