use Rattle.golog_fronts.proofs.Ends.{end_alone, end_closed}
use Rattle.golog_fronts.proofs.WellFormedFits.{well_formed_fits}
use Rattle.golog_fronts.proofs.ending.end_cond.Goals as goal

pub returns-clause-end : goal.returns-clause-end
returns-clause-end c =
    end_alone c.args.agent.now c.args.prog.now c.end_of.result c.end_of.ensures

pub returns-clause-closed : goal.returns-clause-closed
returns-clause-closed c =
    end_closed c.args.agent.now c.args.prog.now c.end_of.result c.end_of.ensures

pub invariant_of-fit : goal.invariant_of-fit
invariant_of-fit c = record { fit = well_formed_fits c.args.agent.now c.requires.agent }
