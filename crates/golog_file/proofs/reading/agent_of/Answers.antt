use Rattle.std.proofs.Common.{Err, sym, subst}
use Rattle.golog_file.specs.Spelled.{DraftAnswers}
use Rattle.golog_file.proofs.Answers.{spells, refused}
use Rattle.golog_file.proofs.reading.agent_of.Goals as goal

pub returns-in-Ok-clause-answer : goal.returns-in-Ok-clause-answer
returns-in-Ok-clause-answer c =
    spells c.args.theory.now c.args.program.now c.in-Ok.agent c.in-Ok.ensures.answer (c.in-Ok.ensures.least c.requires.in_order c.requires.program_in_order)

pub returns-in-Err-clause-answer : goal.returns-in-Err-clause-answer
returns-in-Err-clause-answer c =
    subst (λ fault. DraftAnswers c.args.theory.now c.args.program.now (Err fault)) (sym c.from.ensures)
    (refused c.args.theory.now c.args.program.now c.in-Err.fault (c.in-Err.ensures.least c.requires.in_order c.requires.program_in_order))
