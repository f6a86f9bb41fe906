use Rattle.golog_branch.proofs.Placed.{no-places}
use Rattle.golog_branch.proofs.places.Reached.new.Goals as goal

pub returns-clause-places : goal.returns-clause-places
returns-clause-places c = no-places c.in_ok-nodes.nodes c.new-seen.result c.new-spots.result c.in_ok-nodes.ensures c.new-seen.ensures c.new-spots.ensures
