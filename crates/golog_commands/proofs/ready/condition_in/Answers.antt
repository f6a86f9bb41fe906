use Rattle.std.proofs.Common.{Err, subst}
use Rattle.golog_file.specs.declared.fault.CondFault.{CondFault}
use Rattle.golog_file.specs.Conditions.{ReadsCond}
use Rattle.golog_commands.proofs.OutcomeLemmas.{cond-refused-so}
use Rattle.golog_commands.proofs.ready.condition_in.Goals as goal

pub returns-in-Err-Refused-clause-unready : goal.returns-in-Err-Refused-clause-unready
returns-in-Err-Refused-clause-unready c =
    let u = c.args.understood.now in
    cond-refused-so u.theory u.agent c.args.word.now c.refused.result c.in-Err-Refused.code c.in-Err-Refused.at
    (rw c.as_bytes.ensures.value at
    (subst {A = CondFault} (λ fault. ReadsCond u.theory u.agent (Err fault) c.as_bytes.result.now) c.in-Err-Refused.field-0-is c.in-Err-Refused.ensures.answer))
    c.refused.ensures
