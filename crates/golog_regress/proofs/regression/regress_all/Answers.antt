use Rattle.std.proofs.Common.{◌≡◌, drop, arith, subst}
use Rattle.golog_regress.specs.Regression.{IsRegressed}
use Rattle.golog_regress.proofs.Events.{over_end, over_before}
use Rattle.golog_regress.proofs.regression.regress_all.Goals as goal

pub loop-index-init : goal.loop-index-init
loop-index-init c = over_end c.args.agent.now c.args.events.now c.args.cond.now c.in_ok-answer.answer c.in_ok-answer.ensures

pub loop-index-preserved : goal.loop-index-preserved
loop-index-preserved c =
    over_before c.args.agent.now c.requires.agent c.args.events.now c.loop-index.index _ (omega arith) (omega arith) c.args.cond.now c.loop-index.answer c.in_ok-answer-2.answer
    c.loop-index.invariant c.in_ok-answer-2.ensures

pub returns : goal.returns
returns c =
    let none : c.loop-index.index ≡ 0 = omega arith in
    subst (λ n. IsRegressed c.args.agent.now (drop n c.args.events.now) c.args.cond.now c.loop-index.answer) none c.loop-index.invariant
