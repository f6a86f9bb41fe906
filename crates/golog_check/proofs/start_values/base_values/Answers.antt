use Rattle.std.proofs.Common.{◌∙◌, arith}
use Rattle.golog_check.proofs.StartLaws.{as-counted, base-more}
use Rattle.golog_check.proofs.start_values.base_values.Goals as goal

pub fluent_of-requires-clause-number : goal.fluent_of-requires-clause-number
fluent_of-requires-clause-number c =
    let e = as-counted c.args.agent.now in
    omega (arith, e, c.ground_count-number-end.ensures, c.loop-number-test.true)

pub loop-number-preserved : goal.loop-number-preserved
loop-number-preserved c =
    c.in_ok-push.ensures.items
    ∙ base-more c.args.agent.now c.args.own.now c.loop-number.number c.fluent_of.result.item _ _ c.fluent_of.ensures.named
    c.loop-number.invariant
