use Rattle.std.proofs.Common.{Err, sym, subst}
use Rattle.golog_file.specs.Conditions.{FormAnswersCond}
use Rattle.golog_file.proofs.CondAnswers.{check-refused}
use Rattle.golog_file.proofs.condition.cond_over.Goals as goal

pub returns-in-Ok-clause-answer : goal.returns-in-Ok-clause-answer
returns-in-Ok-clause-answer c = record { draft = c.args.draft.now; draft_read = c.requires.read; checked = c.in-Ok.ensures.answer }

pub returns-in-Err-clause-answer : goal.returns-in-Err-clause-answer
returns-in-Err-clause-answer c =
    subst (λ fault. FormAnswersCond c.args.theory.now c.args.agent.now (Err fault) c.args.form.now) (sym c.from.ensures)
    (check-refused c.args.theory.now c.args.agent.now c.args.form.now c.args.draft.now c.in-Err.fault c.requires.read (c.in-Err.ensures.least c.requires.in_order))
