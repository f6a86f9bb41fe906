use Rattle.golog_find.proofs.Searching.{begins}
use Rattle.golog_find.proofs.finding.search_block_with.Goals as goal

pub search_on-found-requires-clause-kept : goal.search_on-found-requires-clause-kept
search_on-found-requires-clause-kept g c = c.in_ok-search.ensures.kept c.args.agent.now

pub search_on-found-requires-clause-searched : goal.search_on-found-requires-clause-searched
search_on-found-requires-clause-searched g c =
    (begins c.args.bounded c.args.agent.now c.args.mode c.args.block.now c.args.state.now _ c.requires.searched c.in_ok-search.ensures.looked).searched

pub returns : goal.returns
returns g c = c.search_on-found.ensures c.args.state.now c.requires.searched c.in_ok-search.ensures.looked
