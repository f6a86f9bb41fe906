use Rattle.std.proofs.lemmas.List.Elements.{All-nil}
use Rattle.golog_search.specs.Told.{IsTold}
use Rattle.golog_search.proofs.weighing.Standing.follow_weighs.Goals as goal

pub is_kept-requires-clause-told : goal.is_kept-requires-clause-told
is_kept-requires-clause-told c = All-nil (IsTold c.args.self.now.agent.now c.args.self.now.state.now)
