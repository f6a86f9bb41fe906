use Rattle.std.proofs.Common.{true, sym, ◌∙◌}
use Rattle.golog_semantics.specs.declared.Mode.TheVariants.{Near}
use Rattle.golog_semantics.specs.Heavy.{is_above}
use Rattle.golog_search.proofs.ReachOfBlock.{kept-all, kept-must, near-modes, never-lacks}
use Rattle.golog_search.proofs.searches.Searches.reach_along.Goals as goal

pub returns-then-is_within-clause-reach : goal.returns-then-is_within-clause-reach
returns-then-is_within-clause-reach g c =
    kept-all c.args.agent.now c.args.self.now.state.now c.args.block.now c.args.rest.now c.requires.depth c.requires.kept (sym c.is_within.ensures ∙ c.if-is_within.true)

pub returns-clause-reach : goal.returns-clause-reach
returns-clause-reach g c =
    near-modes c.args.agent.now c.args.self.now.state.now c.args.block.now c.args.rest.now c.reach_near.result true
    (kept-must c.args.agent.now c.args.self.now.state.now c.args.block.now c.args.rest.now c.requires.kept) c.reach_near.ensures.reach

pub returns-clause-memory : goal.returns-clause-memory
returns-clause-memory g c =
    never-lacks c.args.agent.now c.args.self.now.state.now c.args.block.now c.args.rest.now c.reach_near.result (is_above c.args.agent.now c.args.self.now.state.now Near c.args.block.now) c.reach_near.ensures.fuel
