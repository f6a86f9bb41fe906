use Rattle.std.proofs.Common.{◌≡◌, List, true, false, Some, sym, ap, ◌∙◌}
use Rattle.golog_semantics.specs.Blocks.{beginning, is_kept}
use Rattle.golog_tree.specs.declared.prog.Way.{Way}
use Rattle.golog_ways.specs.First.{head_of}
use Rattle.golog_search.specs.declared.reach.FirstStep.TheVariants.{Step}
use Rattle.golog_search.proofs.FirstSteps.{first_found, first-kept, first-searched}
use Rattle.golog_search.proofs.searches.Searches.first_of_block.Goals as goal

pub returns-then-branch : goal.returns-then-branch
returns-then-branch g c =
    let kept : is_kept c.args.agent.now c.args.self.now.state.now c.args.block.now.body c.args.rest.now ≡ true = sym c.in_ok-is_kept.ensures ∙ c.if-branch.true in
    ap Step c.in_ok-step_along.ensures ∙ first-kept c.args.self.now.bounded c.args.agent.now c.args.self.now.state.now c.args.block.now c.args.rest.now kept

pub returns-in_ok-step_into-in-Run : goal.returns-in_ok-step_into-in-Run
returns-in_ok-step_into-in-Run g c =
    let block = c.args.block.now in
    let kept : is_kept c.args.agent.now c.args.self.now.state.now block.body c.args.rest.now ≡ false = sym c.in_ok-is_kept.ensures ∙ c.if-branch.false in
    ap Step (c.in_ok-step_into-in-Run.ensures ∙ ap (λ (r : List Way). head_of (beginning block.depth block.fuel (Some r))) c.as_slice.ensures)
    ∙ ap (first_found block.depth block.fuel) (sym c.in-Run.is ∙ c.in_ok-run.ensures)
    ∙ first-searched c.args.self.now.bounded c.args.agent.now c.args.self.now.state.now block c.args.rest.now kept

pub returns-in-Absent : goal.returns-in-Absent
returns-in-Absent g c =
    let block = c.args.block.now in
    let kept : is_kept c.args.agent.now c.args.self.now.state.now block.body c.args.rest.now ≡ false = sym c.in_ok-is_kept.ensures ∙ c.if-branch.false in
    ap (first_found block.depth block.fuel) (sym c.in-Absent.is ∙ c.in_ok-run.ensures)
    ∙ first-searched c.args.self.now.bounded c.args.agent.now c.args.self.now.state.now block c.args.rest.now kept

pub returns-in-Fuel : goal.returns-in-Fuel
returns-in-Fuel g c =
    let block = c.args.block.now in
    let kept : is_kept c.args.agent.now c.args.self.now.state.now block.body c.args.rest.now ≡ false = sym c.in_ok-is_kept.ensures ∙ c.if-branch.false in
    ap (first_found block.depth block.fuel) (sym c.in-Fuel.is ∙ c.in_ok-run.ensures)
    ∙ first-searched c.args.self.now.bounded c.args.agent.now c.args.self.now.state.now block c.args.rest.now kept
