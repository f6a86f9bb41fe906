use Rattle.std.proofs.lemmas.List.Elements.{All-nil}
use Rattle.golog_ways.specs.Ready.{IsReady}
use Rattle.golog_search.proofs.deciding.look_ahead.Goals as goal

pub look_ahead_with-requires-clause-checked : goal.look_ahead_with-requires-clause-checked
look_ahead_with-requires-clause-checked g c = All-nil (IsReady c.args.agent.now)
