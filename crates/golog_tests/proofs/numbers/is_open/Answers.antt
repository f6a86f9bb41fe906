-- What has a start value is a ground fluent.
use Rattle.golog_tests.proofs.Grounded.{started}
use Rattle.golog_tests.proofs.numbers.is_open.Goals as goal

pub fluent_of-ground-requires-clause-number : goal.fluent_of-ground-requires-clause-number
fluent_of-ground-requires-clause-number c =
    started c.args.agent.now c.args.number c.requires.formed c.requires.number
