use Rattle.std.proofs.Common.{◌∙◌, subst}
use Rattle.std.specs.Prelude.{Result, IfOk}
use Rattle.golog_semantics.specs.Search.{no_blocks}
use Rattle.golog_ways.specs.declared.answering.Stop.{Stop}
use Rattle.golog_ways.specs.declared.reaches.Reach.{Reach}
use Rattle.golog_ways.specs.Reach.{IsReach}
use Rattle.golog_ways.proofs.PlainSteps.{any-without}
use Rattle.golog_ways.proofs.without.any_without.Goals as goal

pub returns-in-Ok : goal.returns-in-Ok
returns-in-Ok c =
    let agent = c.args.agent.now in
    let values = c.args.values.now in
    let p = c.args.prog.now in
    let found : IsReach agent no_blocks values p c.in-Ok.reach = subst (λ (r : Result Reach Stop). IfOk r (IsReach agent no_blocks values p)) c.in-Ok.is c.reach_of.ensures.reach in
    c.holds_in.ensures ∙ found.steps c.args.mode ∙ any-without agent values c.args.mode p
