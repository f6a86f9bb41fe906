use Rattle.std.proofs.lemmas.List.Elements.{All-nil}
use Rattle.golog_ways.specs.Ready.{IsReady}
use Rattle.golog_ways.proofs.moving.first_move.Goals as goal

pub first_move_with-requires-clause-checked : goal.first_move_with-requires-clause-checked
first_move_with-requires-clause-checked g c = All-nil (IsReady c.args.agent.now)
