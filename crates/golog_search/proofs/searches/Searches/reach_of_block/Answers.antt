use Rattle.std.proofs.Common.{sym, ◌∙◌}
use Rattle.golog_search.proofs.ReachOfBlock.{memory-alone}
use Rattle.golog_search.proofs.searches.Searches.reach_of_block.Goals as goal

pub reach_along-requires-clause-kept : goal.reach_along-requires-clause-kept
reach_along-requires-clause-kept g c = sym c.in_ok-is_kept.ensures ∙ c.if-branch.true

pub reach_anew-requires-clause-kept : goal.reach_anew-requires-clause-kept
reach_anew-requires-clause-kept g c = sym c.in_ok-is_kept.ensures ∙ c.if-branch.false

pub returns-then-branch-clause-fuel : goal.returns-then-branch-clause-fuel
returns-then-branch-clause-fuel g c =
    memory-alone c.args.agent.now c.args.self.now.state.now c.args.block.now c.args.rest.now c.reach_along.result _ c.reach_along.ensures.memory
