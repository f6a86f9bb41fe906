use Rattle.std.proofs.Common.{ap, subst, sym}
use Rattle.golog_semantics.specs.Restart.{restarted}
use Rattle.golog_semantics.specs.WellFormed.{WellFormed}
use Rattle.golog_semantics.proofs.Restarted.{restarted_fits}
use Rattle.golog_progress.proofs.restarting.restart.Goals as goal

pub returns-clause-restarted : goal.returns-clause-restarted
returns-clause-restarted c = ap (restarted c.args.agent.now) c.in_ok-starts.ensures

pub returns-clause-well_formed : goal.returns-clause-well_formed
returns-clause-well_formed c =
    subst WellFormed (sym (returns-clause-restarted c))
    (restarted_fits c.args.agent.now c.args.values.now c.requires.agent c.requires.sorts)
