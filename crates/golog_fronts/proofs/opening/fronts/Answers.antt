use Rattle.golog_fronts.proofs.AllFronts.{all_given}
use Rattle.golog_fronts.proofs.Opened.{fronts_alone, fronts_closed, fronts_left}
use Rattle.golog_fronts.proofs.WellFormedFits.{well_formed_fits}
use Rattle.golog_fronts.proofs.opening.fronts.Goals as goal

pub returns-clause-ways : goal.returns-clause-ways
returns-clause-ways c =
    fronts_alone c.args.agent.now c.args.prog.now c.fronts_of.result c.fronts_of.ensures

pub returns-clause-closed : goal.returns-clause-closed
returns-clause-closed c =
    fronts_closed c.args.agent.now c.args.prog.now c.fronts_of.result c.fronts_of.ensures

pub returns-clause-lefts : goal.returns-clause-lefts
returns-clause-lefts c =
    fronts_left c.args.agent.now c.args.prog.now c.requires.program c.fronts_of.result c.fronts_of.ensures

pub returns-clause-all : goal.returns-clause-all
returns-clause-all c =
    all_given c.args.agent.now c.requires.agent.programs.guarded c.args.prog.now c.requires.free c.fronts_of.result c.fronts_of.ensures

pub invariant_of-fit : goal.invariant_of-fit
invariant_of-fit c = record { fit = well_formed_fits c.args.agent.now c.requires.agent }
