use Rattle.std.proofs.lemmas.List.Elements.{All-nil}
use Rattle.golog_ways.specs.Ready.{IsReady}
use Rattle.golog_ways.proofs.reaching.reach_of.Goals as goal

pub invariant_of-here-clause-checked : goal.invariant_of-here-clause-checked
invariant_of-here-clause-checked g c = All-nil (IsReady c.args.agent.now)
