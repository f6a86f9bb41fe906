use Rattle.std.proofs.Common.{[], refl, sym, ◌∙◌}
use Rattle.golog_search.proofs.ReachOfBlock.{near-lacks, near-told}
use Rattle.golog_search.proofs.searches.Searches.reach_near.Goals as goal

pub returns-in-Steps-clause-reach : goal.returns-in-Steps-clause-reach
returns-in-Steps-clause-reach g c = λ rest.
    let told = near-told c.args.bounded c.args.agent.now c.args.self.now.state.now c.args.block.now rest c.in-Steps.near c.in-Steps.may (sym c.in-Steps.is ∙ c.in_ok-near.ensures rest) in
    record { certain = refl; near = told.0; may = told.1 }

pub returns-in-Fuel-clause-fuel : goal.returns-in-Fuel-clause-fuel
returns-in-Fuel-clause-fuel g c = λ e.
    near-lacks c.args.bounded c.args.agent.now c.args.self.now.state.now c.args.block.now [] (sym c.in-Fuel.is ∙ c.in_ok-near.ensures [])
