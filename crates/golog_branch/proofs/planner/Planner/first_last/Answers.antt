use Rattle.std.proofs.Common.{◌+◌, drop, sym, ap, ◌∙◌, arith}
use Rattle.std.specs.Option.{option_or}
use Rattle.golog_branch.specs.Levels.{IsWay, followed_step}
use Rattle.golog_branch.specs.Plans.{first_plan}
use Rattle.golog_branch.proofs.CasesKeep.{all-at}
use Rattle.golog_branch.proofs.Somes.{first_by, first-next, none-or, some-or}
use Rattle.golog_branch.proofs.planner.Planner.first_last.Goals as goal

pub followed_step-requires-clause-way : goal.followed_step-requires-clause-way
followed_step-requires-clause-way c =
    all-at (IsWay c.args.self.now.agent.now) c.args.ways.now c.loop-way.way-index c.way-item.result (omega arith) c.way-item.is c.requires.ways

pub returns-then-is_some : goal.returns-then-is_some
returns-then-is_some c =
    let f = followed_step c.args.self.now.agent.now (first_plan c.args.self.now.agent.now 0) c.args.state.now in
    sym (c.loop-way.invariant ∙ first-next f c.args.ways.now c.loop-way.way-index c.way-item.result (omega arith) c.way-item.is
    ∙ ap (λ o. option_or o (first_by f (drop (c.loop-way.way-index + 1) c.args.ways.now))) (sym c.in_ok-plan.ensures) ∙ some-or c.in_ok-plan.plan (first_by f (drop (c.loop-way.way-index + 1) c.args.ways.now)) (sym c.is_some.ensures ∙ c.if-is_some.true))

pub loop-way-preserved : goal.loop-way-preserved
loop-way-preserved c =
    let f = followed_step c.args.self.now.agent.now (first_plan c.args.self.now.agent.now 0) c.args.state.now in
    c.loop-way.invariant ∙ first-next f c.args.ways.now c.loop-way.way-index c.way-item.result (omega arith) c.way-item.is
    ∙ ap (λ o. option_or o (first_by f (drop (c.loop-way.way-index + 1) c.args.ways.now))) (sym c.in_ok-plan.ensures) ∙ none-or c.in_ok-plan.plan (first_by f (drop (c.loop-way.way-index + 1) c.args.ways.now)) (sym c.is_some.ensures ∙ c.if-is_some.false)
