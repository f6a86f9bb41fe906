use Rattle.std.proofs.Common.{Err, sym, subst}
use Rattle.golog_file.specs.Spelled.{ReadsWith}
use Rattle.golog_file.proofs.Answers.{bytes-read, form-refused, stay-kept}
use Rattle.golog_file.proofs.reading.read_theory_and_agent.Goals as goal

pub returns-in-Ok-clause-answer : goal.returns-in-Ok-clause-answer
returns-in-Ok-clause-answer c =
    bytes-read c.args.bytes.now c.in-Ok.form c.understood_in-answer.result c.in-Ok.ensures.found c.in-Ok.ensures.codes c.understood_in-answer.ensures.answer

pub returns-in-Ok-clause-kept : goal.returns-in-Ok-clause-kept
returns-in-Ok-clause-kept c =
    stay-kept c.args.bytes.now c.understood_in-answer.result
    (bytes-read c.args.bytes.now c.in-Ok.form c.understood_in-answer.result c.in-Ok.ensures.found c.in-Ok.ensures.codes c.understood_in-answer.ensures.answer)

pub returns-in-Err-clause-answer : goal.returns-in-Err-clause-answer
returns-in-Err-clause-answer c =
    subst (λ fault. ReadsWith (Err fault) c.args.bytes.now) (sym c.from.ensures) (form-refused c.args.bytes.now c.in-Err.fault c.in-Err.ensures.codes)
