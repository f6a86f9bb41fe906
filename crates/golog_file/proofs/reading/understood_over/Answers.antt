use Rattle.golog_file.proofs.Answers.{with-theory}
use Rattle.golog_file.proofs.reading.understood_over.Goals as goal

pub returns-in-Ok-clause-answer : goal.returns-in-Ok-clause-answer
returns-in-Ok-clause-answer c =
    with-theory c.args.form.now c.args.theory c.in-Ok.agent c.requires.read c.in-Ok.ensures.answer
