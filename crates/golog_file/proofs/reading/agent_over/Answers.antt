use Rattle.std.proofs.Common.{Err, sym, subst}
use Rattle.golog_file.specs.Spelled.{FormAnswers}
use Rattle.golog_file.proofs.Answers.{draft-read, program-refused}
use Rattle.golog_file.proofs.reading.agent_over.Goals as goal

pub returns-in-Ok-clause-answer : goal.returns-in-Ok-clause-answer
returns-in-Ok-clause-answer c =
    draft-read c.args.form.now c.args.theory.now c.in-Ok.program c.agent_of-answer.result
    (record { theory_read = c.requires.read; program_read = c.in-Ok.ensures.read }) c.agent_of-answer.ensures.answer

pub returns-in-Err-clause-answer : goal.returns-in-Err-clause-answer
returns-in-Err-clause-answer c =
    subst (λ fault. FormAnswers (Err fault) c.args.form.now) (sym c.from.ensures)
    (program-refused c.args.form.now c.args.theory.now c.in-Err.fault c.requires.read (c.in-Err.ensures.least c.requires.placed))
