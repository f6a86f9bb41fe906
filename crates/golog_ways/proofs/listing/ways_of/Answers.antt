use Rattle.golog_ways.proofs.SearchedWays.{free-of}
use Rattle.golog_ways.proofs.listing.ways_of.Goals as goal

pub fronts-requires-clause-free : goal.fronts-requires-clause-free
fronts-requires-clause-free c = free-of c.args.agent.now c.args.prog.now c.args.state.now c.requires.searched
