use Rattle.std.proofs.Common.{sym, ◌∙◌}
use Rattle.golog_search.proofs.ReachOfBlock.{near-lacks, near-told}
use Rattle.golog_search.proofs.searches.Searches.reach_anew.Goals as goal

pub reach_beside-requires-clause-near : goal.reach_beside-requires-clause-near
reach_beside-requires-clause-near g c =
    let rest = c.args.rest.now in
    (near-told c.args.self.now.bounded c.args.agent.now c.args.self.now.state.now c.args.block.now rest c.in-Steps.near c.in-Steps.may (sym c.in-Steps.is ∙ c.in_ok-near.ensures rest)).0

pub reach_beside-requires-clause-may : goal.reach_beside-requires-clause-may
reach_beside-requires-clause-may g c =
    let rest = c.args.rest.now in
    (near-told c.args.self.now.bounded c.args.agent.now c.args.self.now.state.now c.args.block.now rest c.in-Steps.near c.in-Steps.may (sym c.in-Steps.is ∙ c.in_ok-near.ensures rest)).1

pub reach_certain-requires-clause-above : goal.reach_certain-requires-clause-above
reach_certain-requires-clause-above g c =
    let rest = c.args.rest.now in
    near-lacks c.args.self.now.bounded c.args.agent.now c.args.self.now.state.now c.args.block.now rest (sym c.in-Fuel.is ∙ c.in_ok-near.ensures rest)
