use Rattle.golog_find.proofs.Numbering.{start-meant}
use Rattle.golog_find.proofs.numbered.Numbered.start.Goals as goal

pub returns-clause-means : goal.returns-clause-means
returns-clause-means c =
    start-meant c.number.new.self c.in_ok-left.left c.args.prog.now c.in_ok-state.state c.args.state.now c.in_ok-left.ensures.number c.in_ok-state.ensures
