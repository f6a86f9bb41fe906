use Rattle.std.proofs.Common.{arith}
use Rattle.golog_check.proofs.SensingLaws.{noted}
use Rattle.golog_check.proofs.sensing.note.Goals as goal

pub returns-then-index-len-clause-noted : goal.returns-then-index-len-clause-noted
returns-then-index-len-clause-noted c = λ items item e h.
    noted c.args.sensed.now.items c.args.action items item e h (omega arith)
