use Rattle.std.proofs.Common.{sym, subst}
use Rattle.std.proofs.lemmas.List.Elements.{All-nil}
use Rattle.golog_search.specs.Told.{AreTold, IsTold}
use Rattle.golog_search.proofs.told.told_of.Goals as goal

pub ask_of-requires-clause-told : goal.ask_of-requires-clause-told
ask_of-requires-clause-told g c =
    let agent = c.args.agent.now in
    let values = c.args.state.now in
    subst (AreTold agent values) (sym c.new-told.ensures) (All-nil (IsTold agent values))
