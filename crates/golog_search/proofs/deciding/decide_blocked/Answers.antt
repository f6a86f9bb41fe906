use Rattle.std.proofs.lemmas.List.Elements.{All-nil}
use Rattle.golog_search.specs.Told.{IsTold}
use Rattle.golog_search.proofs.deciding.decide_blocked.Goals as goal

pub look_why-requires-clause-told : goal.look_why-requires-clause-told
look_why-requires-clause-told g c = All-nil (IsTold c.args.agent.now c.args.state.now)
