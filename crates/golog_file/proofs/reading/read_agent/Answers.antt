use Rattle.golog_file.proofs.Answers.{without-theory}
use Rattle.golog_file.proofs.reading.read_agent.Goals as goal

pub returns-in-Ok-clause-answer : goal.returns-in-Ok-clause-answer
returns-in-Ok-clause-answer c =
    without-theory c.args.bytes.now c.in-Ok.field-0.theory c.in-Ok.field-0.agent c.in-Ok.ensures.answer
