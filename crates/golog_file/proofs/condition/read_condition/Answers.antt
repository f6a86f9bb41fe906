use Rattle.std.proofs.Common.{Err, sym, subst}
use Rattle.golog_file.specs.Conditions.{ReadsCond}
use Rattle.golog_file.proofs.CondAnswers.{bytes-read, form-refused}
use Rattle.golog_file.proofs.condition.read_condition.Goals as goal

pub returns-in-Ok-clause-answer : goal.returns-in-Ok-clause-answer
returns-in-Ok-clause-answer c =
    bytes-read c.args.theory.now c.args.agent.now c.args.bytes.now c.in-Ok.form c.cond_in-answer.result c.in-Ok.ensures.found c.in-Ok.ensures.codes c.cond_in-answer.ensures.answer

pub returns-in-Err-clause-answer : goal.returns-in-Err-clause-answer
returns-in-Err-clause-answer c =
    subst (λ fault. ReadsCond c.args.theory.now c.args.agent.now (Err fault) c.args.bytes.now) (sym c.from.ensures)
    (form-refused c.args.theory.now c.args.agent.now c.args.bytes.now c.in-Err.fault c.in-Err.ensures.codes)
