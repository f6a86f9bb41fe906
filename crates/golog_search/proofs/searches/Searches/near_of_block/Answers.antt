use Rattle.std.proofs.Common.{sym, ap, ◌∙◌}
use Rattle.golog_search.proofs.FirstSteps.{near_found, near-found}
use Rattle.golog_search.proofs.searches.Searches.near_of_block.Goals as goal

pub returns-in-Fuel : goal.returns-in-Fuel
returns-in-Fuel g c = λ rest.
    ap near_found (sym c.in-Fuel.is ∙ c.in_ok-run.ensures)
    ∙ near-found c.args.bounded c.args.agent.now c.args.self.now.state.now c.args.block.now rest c.requires.depth

pub returns-in-Run : goal.returns-in-Run
returns-in-Run g c = λ rest.
    ap near_found (sym c.in-Run.is ∙ c.in_ok-run.ensures)
    ∙ near-found c.args.bounded c.args.agent.now c.args.self.now.state.now c.args.block.now rest c.requires.depth

pub returns-in-Absent : goal.returns-in-Absent
returns-in-Absent g c = λ rest.
    ap near_found (sym c.in-Absent.is ∙ c.in_ok-run.ensures)
    ∙ near-found c.args.bounded c.args.agent.now c.args.self.now.state.now c.args.block.now rest c.requires.depth
