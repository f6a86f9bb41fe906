use Rattle.std.proofs.Common.{◌<◌, length, arith}
use Rattle.golog_ground.proofs.Enclosed.{read-brackets}
use Rattle.golog_ground.proofs.args.read_args.Goals as goal

pub returns-then-not-is_empty : goal.returns-then-not-is_empty
returns-then-not-is_empty c =
    let some : 0 < length c.args.sorts.now = grind (arith, c.is_empty.ensures, c.if-not-is_empty.true) in
    read-brackets c.args.agent.now c.args.sorts.now c.args.bytes.now c.read_enclosed.result some c.read_enclosed.ensures
