-- What has a start value is a ground fluent.
use Rattle.golog_tests.proofs.Grounded.{started}
use Rattle.golog_tests.proofs.numbers.has_text.Goals as goal

pub fluent_text-requires-clause-number : goal.fluent_text-requires-clause-number
fluent_text-requires-clause-number c =
    started c.args.agent.now c.args.number c.requires.formed c.requires.number
