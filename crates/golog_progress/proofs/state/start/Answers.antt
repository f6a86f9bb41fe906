use Rattle.std.proofs.Common.{subst, sym}
use Rattle.golog_semantics.specs.InSorts.{AreInSorts}
use Rattle.golog_semantics.proofs.WellNamed.{starts_in_sorts}
use Rattle.golog_progress.proofs.state.start.Goals as goal

pub of-requires : goal.of-requires
of-requires c =
    subst (AreInSorts c.args.agent.now) (sym c.as_slice.ensures) (starts_in_sorts c.args.agent.now c.requires)
