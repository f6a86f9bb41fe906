use Rattle.std.proofs.Common.{sym, ◌∙◌}
use Rattle.golog_semantics.specs.declared.Mode.TheVariants.{Must}
use Rattle.golog_search.proofs.ReachOfBlock.{anew-all, fuel-found, must-wants, near-wanted, run-found}
use Rattle.golog_search.proofs.searches.Searches.reach_certain.Goals as goal

pub returns-in-Absent-clause-fuel : goal.returns-in-Absent-clause-fuel
returns-in-Absent-clause-fuel g c = λ e.
    near-wanted c.args.agent.now c.args.self.now.state.now c.args.block.now c.args.rest.now c.args.self.now.bounded c.requires.kept c.requires.above

pub returns-in-Run-clause-reach : goal.returns-in-Run-clause-reach
returns-in-Run-clause-reach g c =
    let agent = c.args.agent.now in
    let state = c.args.self.now.state.now in
    let block = c.args.block.now in
    anew-all agent state block c.args.rest.now c.requires.depth c.requires.kept c.in-Run.run'
    (run-found c.args.self.now.bounded agent state block Must c.in-Run.run' (sym c.in-Run.is ∙ c.in_ok-run.ensures))

pub returns-in-Fuel-clause-fuel : goal.returns-in-Fuel-clause-fuel
returns-in-Fuel-clause-fuel g c = λ e.
    let agent = c.args.agent.now in
    let state = c.args.self.now.state.now in
    let block = c.args.block.now in
    must-wants agent state block c.args.rest.now c.args.self.now.bounded c.requires.kept
    (fuel-found c.args.self.now.bounded agent state block Must (sym c.in-Fuel.is ∙ c.in_ok-run.ensures))
