use Rattle.std.proofs.Common.{sym, ap, ◌∙◌}
use Rattle.golog_semantics.specs.declared.Mode.TheVariants.{Must}
use Rattle.golog_semantics.specs.declared.search.Block.{Block}
use Rattle.golog_search.proofs.InBlocks.{follow_searched}
use Rattle.golog_search.proofs.ReachOfBlock.{first-given, step-lacks, step-told, wants-given}
use Rattle.golog_search.proofs.searches.SearchesBlocks.first.Goals as goal

pub first_of_block-requires-clause-agent : goal.first_of_block-requires-clause-agent
first_of_block-requires-clause-agent g c = c.requires.ready.searched.formed

pub first_of_block-requires-clause-told : goal.first_of_block-requires-clause-told
first_of_block-requires-clause-told g c = c.requires.ready.told

pub first_of_block-requires-clause-searched : goal.first_of_block-requires-clause-searched
first_of_block-requires-clause-searched g c =
    follow_searched c.args.agent.now c.args._values.now c.args.self.now.state.now c.requires.ready.searched c.args.following.now.body.now c.in_ok-block.block.body (ap (λ (b : Block). b.body) c.in_ok-block.ensures)
    c.args.following.now.depth c.args.following.now.fuel c.args.following.now.rest.now c.requires.closed

pub returns-in-Step-clause-first : goal.returns-in-Step-clause-first
returns-in-Step-clause-first g c =
    let agent = c.args.agent.now in
    let state = c.args.self.now.state.now in
    let block = c.in_ok-block.block in
    first-given agent c.args._values.now state c.requires.ready.searched.same block _ c.in_ok-block.ensures c.args.following.now.rest.now c.in-Step.step
    (step-told c.args.self.now.bounded agent state block c.args.following.now.rest.now c.in-Step.step (sym c.in-Step.is ∙ c.in_ok-step.ensures))

pub returns-clause-fuel : goal.returns-clause-fuel
returns-clause-fuel g c = λ e.
    let agent = c.args.agent.now in
    let state = c.args.self.now.state.now in
    let block = c.in_ok-block.block in
    wants-given agent c.args._values.now state c.requires.ready.searched.same block _ c.in_ok-block.ensures c.args.following.now.rest.now c.args.self.now.bounded Must
    (step-lacks c.args.self.now.bounded agent state block c.args.following.now.rest.now (sym c.in-Fuel.is ∙ c.in_ok-step.ensures))
