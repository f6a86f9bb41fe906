use Rattle.std.proofs.Common.{arith}
use Rattle.golog_branch.proofs.Told.{many-values, one-value}
use Rattle.golog_branch.proofs.telling.is_unsensed.Goals as goal

pub returns-in-len1 : goal.returns-in-len1
returns-in-len1 c = one-value c.args.next.now c.only-item.result (omega arith) c.only-item.is

pub returns-in_default : goal.returns-in_default
returns-in_default c = many-values c.args.next.now (λ one. omega arith)
