use Rattle.std.proofs.Common.{subst, sym}
use Rattle.golog_semantics.specs.InSorts.{AreInSorts}
use Rattle.golog_semantics.proofs.CausesKeep.{steps_stay_in_sorts}
use Rattle.golog_flat.proofs.effect.take_step.Goals as goal

pub returns-clause-sorts : goal.returns-clause-sorts
returns-clause-sorts c =
    subst (AreInSorts c.args.agent.now) (sym c.take_by_either.ensures)
    (steps_stay_in_sorts c.args.agent.now c.requires.agent c.args.state.now c.args.label c.requires.sorts)
