use Rattle.std.proofs.Common.{◌≡◌, ◌+◌, ◌-◌, drop, refl, subst, arith}
use Rattle.golog_progress.proofs.Rolled.{fit-at}
use Rattle.golog_regress.specs.Regression.{IsRegressed}
use Rattle.golog_ask.specs.Events.{events_of}
use Rattle.golog_ask.proofs.Taken.{back-none, back-one}
use Rattle.golog_ask.proofs.earlier.up_to_change.Goals as goal

pub may_change-requires-clause-entry : goal.may_change-requires-clause-entry
may_change-requires-clause-entry c = fit-at c.args.agent.now c.args.entries.now (c.loop-index.index - 1) _ c.requires.entries (omega arith)

pub loop-index-init : goal.loop-index-init
loop-index-init c = back-none c.args.agent.now c.args.entries.now c.args.cond.now c.args.cond.now refl

pub loop-index-preserved : goal.loop-index-preserved
loop-index-preserved c =
    back-one c.args.agent.now c.requires.agent c.args.entries.now c.loop-index.index _ (omega arith) (omega arith) c.args.cond.now c.args.cond.now c.args.cond.now
    c.loop-index.invariant (c.may_change.ensures c.if-may_change.false)

pub returns-then-may_change-clause-stays : goal.returns-then-may_change-clause-stays
returns-then-may_change-clause-stays c =
    let same : c.loop-index.index ≡ c.loop-index.index - 1 + 1 = omega arith in
    subst (λ n. IsRegressed c.args.agent.now (events_of (drop n c.args.entries.now)) c.args.cond.now c.args.cond.now) same c.loop-index.invariant

pub returns-clause-stays : goal.returns-clause-stays
returns-clause-stays c =
    let none_left : c.loop-index.index ≡ 0 = omega arith in
    subst (λ n. IsRegressed c.args.agent.now (events_of (drop n c.args.entries.now)) c.args.cond.now c.args.cond.now) none_left c.loop-index.invariant
