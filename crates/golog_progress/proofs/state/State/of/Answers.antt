use Rattle.golog_semantics.specs.InSorts.{AreInSorts}
use Rattle.golog_progress.proofs.Ruled.{if-ok}
use Rattle.golog_progress.proofs.state.State.of.Goals as goal

pub returns-clause-sorts : goal.returns-clause-sorts
returns-clause-sorts c =
    if-ok (AreInSorts c.args.agent.now) c.args.values.now c.of_values.result c.of_values.ensures c.requires
