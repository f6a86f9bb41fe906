use Rattle.std.proofs.Common.{false, sym, ◌∙◌}
use Rattle.golog_semantics.specs.declared.Mode.TheVariants.{Must}
use Rattle.golog_search.proofs.ReachOfBlock.{anew-all, anew-none, anew-nowhere, by-modes, fuel-found, must-wants, none-found, run-found}
use Rattle.golog_search.proofs.searches.Searches.reach_beside.Goals as goal

pub returns-then-not-near-clause-reach : goal.returns-then-not-near-clause-reach
returns-then-not-near-clause-reach g c =
    let agent = c.args.agent.now in
    let state = c.args.self.now.state.now in
    let block = c.args.block.now in
    let rest = c.args.rest.now in
    by-modes agent state block rest (record { must = false; near = c.args.near; may = c.args.may })
    (anew-nowhere agent state block rest c.requires.kept (sym c.requires.near ∙ c.if-not-near.true)) c.requires.near c.requires.may

pub returns-in-Absent-clause-reach : goal.returns-in-Absent-clause-reach
returns-in-Absent-clause-reach g c =
    let agent = c.args.agent.now in
    let state = c.args.self.now.state.now in
    let block = c.args.block.now in
    let rest = c.args.rest.now in
    by-modes agent state block rest (record { must = false; near = c.args.near; may = c.args.may })
    (anew-none agent state block rest c.requires.kept (none-found c.args.self.now.bounded agent state block Must _ (sym c.in-Absent.is ∙ c.in_ok-run.ensures))) c.requires.near c.requires.may

pub returns-in-Run-clause-reach : goal.returns-in-Run-clause-reach
returns-in-Run-clause-reach g c =
    let agent = c.args.agent.now in
    let state = c.args.self.now.state.now in
    let block = c.args.block.now in
    anew-all agent state block c.args.rest.now c.requires.depth c.requires.kept c.in-Run.run'
    (run-found c.args.self.now.bounded agent state block Must c.in-Run.run' (sym c.in-Run.is ∙ c.in_ok-run.ensures))

pub returns-in-Fuel-clause-fuel : goal.returns-in-Fuel-clause-fuel
returns-in-Fuel-clause-fuel g c = λ e.
    let agent = c.args.agent.now in
    let state = c.args.self.now.state.now in
    let block = c.args.block.now in
    must-wants agent state block c.args.rest.now c.args.self.now.bounded c.requires.kept
    (fuel-found c.args.self.now.bounded agent state block Must (sym c.in-Fuel.is ∙ c.in_ok-run.ensures))
