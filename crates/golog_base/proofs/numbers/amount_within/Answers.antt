use Rattle.std.proofs.Common.{◌<◌, subst, rules}
use Rattle.golog_base.specs.Numbers.{amount}
use Rattle.golog_base.proofs.Amounts.{amount_wide}
use Rattle.golog_base.proofs.numbers.amount_within.Goals as goal

pub returns-then-next-from : goal.returns-then-next-from
returns-then-next-from c =
    let wide = amount_wide c.args.digits.now c.args.most c.loop-byte.byte-index c.loop-byte.amount (search rules) (search rules) in
    let above : c.args.most < amount c.args.digits.now = subst (λ n. c.args.most < n) c.loop-byte.invariant.same wide in
    search (rules, above)
