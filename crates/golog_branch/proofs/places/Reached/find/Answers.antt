use Rattle.std.proofs.Common.{rules}
use Rattle.golog_branch.proofs.Placed.{found-there}
use Rattle.golog_branch.proofs.places.Reached.find.Goals as goal

pub returns : goal.returns
returns c =
    let reached = c.args.self.now in
    found-there reached.seen reached.spots c.args.number c.args.hash c.args.state.now c.requires.seen c.requires.hash _ _ c.find-found.result c.find-found.ensures (λ place p. search rules) (λ place p. search rules)
