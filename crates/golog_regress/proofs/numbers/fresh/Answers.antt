use Rattle.std.proofs.Common.{sym, ◌∙◌, arith}
use Rattle.golog_regress.proofs.Fresh.{fresh-is, used-number, unused-number, all-used}
use Rattle.golog_regress.proofs.numbers.fresh.Goals as goal

pub loop-number-init : goal.loop-number-init
loop-number-init c = (fresh-is c.args.args.now, omega arith)

pub loop-number-preserved : goal.loop-number-preserved
loop-number-preserved c =
    (c.loop-number.invariant.0 ∙ used-number c.args.args.now c.loop-number.number c.loop-number-test.true (sym c.is_used.ensures ∙ c.if-not-is_used.false), omega arith)

pub returns-then-not-is_used : goal.returns-then-not-is_used
returns-then-not-is_used c =
    sym (c.loop-number.invariant.0 ∙ unused-number c.args.args.now c.loop-number.number c.loop-number-test.true (sym c.is_used.ensures ∙ c.if-not-is_used.true))

pub returns : goal.returns
returns c = sym (c.loop-number.invariant.0 ∙ all-used c.args.args.now c.loop-number.number c.loop-number-test.false)
