use Rattle.std.proofs.Common.{false, sym, subst}
use Rattle.golog_search.specs.Told.{AreTold}
use Rattle.golog_search.proofs.deciding.decide_step_of.Goals as goal

pub told_of-requires-clause-closed : goal.told_of-requires-clause-closed
told_of-requires-clause-closed g c = record { in_block = false; fits = c.requires.program }

pub look_ahead_with-requires-clause-told : goal.look_ahead_with-requires-clause-told
look_ahead_with-requires-clause-told g c = subst (AreTold c.args.agent.now c.args.state.now) (sym c.as_slice-runs.ensures) c.in_ok-told.ensures.told
