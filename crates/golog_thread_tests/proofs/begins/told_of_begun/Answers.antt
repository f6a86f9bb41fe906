use Rattle.std.proofs.Common.{[], ◌∷◌}
use Rattle.golog_device.specs.Tables.{is_fresh, meaning_of}
use Rattle.golog_thread_tests.proofs.FirstTurns.{first-fresh}
use Rattle.golog_thread_tests.proofs.begins.told_of_begun.Goals as goal

pub told_by-requires-clause-fresh : goal.told_by-requires-clause-fresh
told_by-requires-clause-fresh c =
    first-fresh is_fresh meaning_of c.in_ok-one.one c.in_ok-other.other (c.in_ok-spare.spare ∷ []) c.in_ok-one.ensures c.in_ok-other.ensures
