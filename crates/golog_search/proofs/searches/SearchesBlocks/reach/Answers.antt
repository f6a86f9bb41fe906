use Rattle.std.proofs.Common.{◌≤◌, sym, ap, subst}
use Rattle.golog_semantics.specs.declared.search.Block.{Block}
use Rattle.golog_search.proofs.InBlocks.{follow_depth, follow_searched}
use Rattle.golog_search.proofs.ReachOfBlock.{lacks-given, reach-given}
use Rattle.golog_search.proofs.searches.SearchesBlocks.reach.Goals as goal

pub reach_of_block-reach-requires-clause-agent : goal.reach_of_block-reach-requires-clause-agent
reach_of_block-reach-requires-clause-agent g c = c.requires.ready.searched.formed

pub reach_of_block-reach-requires-clause-told : goal.reach_of_block-reach-requires-clause-told
reach_of_block-reach-requires-clause-told g c = c.requires.ready.told

pub reach_of_block-reach-requires-clause-searched : goal.reach_of_block-reach-requires-clause-searched
reach_of_block-reach-requires-clause-searched g c =
    follow_searched c.args.agent.now c.args._values.now c.args.self.now.state.now c.requires.ready.searched c.args.following.now.body.now c.in_ok-block.block.body (ap (λ (b : Block). b.body) c.in_ok-block.ensures)
    c.args.following.now.depth c.args.following.now.fuel c.args.following.now.rest.now c.requires.closed

pub reach_of_block-reach-requires-clause-depth : goal.reach_of_block-reach-requires-clause-depth
reach_of_block-reach-requires-clause-depth g c =
    subst (λ k. 1 ≤ k) (sym (ap (λ (b : Block). b.depth) c.in_ok-block.ensures)) (follow_depth c.args.agent.now c.args.following.now.body.now c.args.following.now.depth c.args.following.now.fuel c.args.following.now.rest.now c.requires.closed)

pub returns-clause-reach : goal.returns-clause-reach
returns-clause-reach g c =
    reach-given c.args.agent.now c.args._values.now c.args.self.now.state.now c.requires.ready.searched.same c.in_ok-block.block _ c.in_ok-block.ensures c.args.following.now.rest.now c.reach_of_block-reach.result c.reach_of_block-reach.ensures.reach

pub returns-clause-fuel : goal.returns-clause-fuel
returns-clause-fuel g c =
    lacks-given c.args.agent.now c.args._values.now c.args.self.now.state.now c.requires.ready.searched.same c.in_ok-block.block _ c.in_ok-block.ensures c.args.following.now.rest.now c.args.self.now.bounded
    c.reach_of_block-reach.result c.reach_of_block-reach.ensures.fuel
