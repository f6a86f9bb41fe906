use Rattle.std.proofs.Common.{Err, sym, subst}
use Rattle.golog_file.specs.Conditions.{FormAnswersCond}
use Rattle.golog_file.proofs.CondAnswers.{draft-refused}
use Rattle.golog_file.proofs.condition.cond_in.Goals as goal

pub returns-in-Err-clause-answer : goal.returns-in-Err-clause-answer
returns-in-Err-clause-answer c =
    subst (λ fault. FormAnswersCond c.args.theory.now c.args.agent.now (Err fault) c.args.form.now) (sym c.from.ensures)
    (draft-refused c.args.theory.now c.args.agent.now c.args.form.now c.in-Err.fault (c.in-Err.ensures.least c.requires.placed))

pub cond_over-answer-requires-clause-kept : goal.cond_over-answer-requires-clause-kept
cond_over-answer-requires-clause-kept c = c.requires.kept c.in-Ok.draft c.in-Ok.ensures.keeps
