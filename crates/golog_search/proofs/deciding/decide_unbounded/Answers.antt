use Rattle.std.proofs.lemmas.List.Elements.{All-nil}
use Rattle.golog_search.specs.Told.{IsTold}
use Rattle.golog_search.proofs.Choosing.{unbounded-ok}
use Rattle.golog_search.proofs.deciding.decide_unbounded.Goals as goal

pub look-requires-clause-told : goal.look-requires-clause-told
look-requires-clause-told c = All-nil (IsTold c.args.agent.now c.args.state.now)

pub returns : goal.returns
returns c = unbounded-ok c.args.agent.now c.args.state.now c.args.prog.now c.look.result c.look.ensures
