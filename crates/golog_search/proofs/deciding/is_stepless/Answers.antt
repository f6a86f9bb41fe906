use Rattle.std.proofs.Common.{◌∙◌}
use Rattle.std.proofs.lemmas.List.Elements.{All-nil}
use Rattle.golog_search.specs.Told.{IsTold}
use Rattle.golog_search.proofs.Choosing.{stepless-ahead}
use Rattle.golog_search.proofs.deciding.is_stepless.Goals as goal

pub look_ahead-requires-clause-told : goal.look_ahead-requires-clause-told
look_ahead-requires-clause-told c = All-nil (IsTold c.args.agent.now c.args.state.now)

pub returns : goal.returns
returns c = c.is_nothing.ensures ∙ stepless-ahead c.args.agent.now c.args.state.now c.args.prog.now c.requires.unended c.in_ok-ahead.ahead c.in_ok-ahead.ensures
