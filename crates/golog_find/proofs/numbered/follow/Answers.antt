use Rattle.std.proofs.Common.{sym, ap, ◌∙◌, subst}
use Rattle.golog_semantics.specs.InSorts.{AreInSorts}
use Rattle.golog_semantics.specs.Truth.{Values}
use Rattle.golog_semantics.specs.Values.{after}
use Rattle.golog_find.proofs.numbered.follow.Goals as goal

pub set-requires : goal.set-requires
set-requires c = c.requires.sorts.whole ∙ sym c.requires.room.whole

pub take_step-requires-clause-sorts : goal.take_step-requires-clause-sorts
take_step-requires-clause-sorts c = subst (AreInSorts c.args.agent.now) (sym c.set.ensures) c.requires.sorts

pub returns : goal.returns
returns c = c.take_step.ensures.values ∙ ap (λ (values : Values). after c.args.agent.now values c.args.label) c.set.ensures
