use Rattle.std.proofs.Common.{map}
use Rattle.golog_ways.specs.Open.{open_places}
use Rattle.golog_par.proofs.workers.open_in_parts.Goals as goal

pub returns : goal.returns
returns g c = c.in_chunks.ensures (λ a. open_places (g.G.Known.agent c.args.agent.now) a.values.now c.args.mode (map (λ f. f.cond) a.fronts.now)) (λ part r post. post)
