use Rattle.golog_semantics.specs.Search.{plain_ways}
use Rattle.golog_par.proofs.workers.ways_in_parts.Goals as goal

pub returns : goal.returns
returns g c = c.in_chunks.ensures (λ node. plain_ways (g.G.Known.agent c.args.agent.now) node.state c.args.mode node.left) (λ part r post. post)
