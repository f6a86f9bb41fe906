use Rattle.golog_check.proofs.LeastRow.{least-row}
use Rattle.golog_check.proofs.MadeWhole.{well-formed}
use Rattle.golog_check.proofs.checking.check.Goals as goal

pub returns-in-Ok-clause-well_formed : goal.returns-in-Ok-clause-well_formed
returns-in-Ok-clause-well_formed c =
    well-formed c.args.theory.now c.args.program.now c.requires.keeps c.requires.program_keeps
    c.answer.result c.answer.ensures

pub returns-in-Ok-clause-least : goal.returns-in-Ok-clause-least
returns-in-Ok-clause-least c = least-row c.answer.result c.args.theory.now c.args.program.now c.answer.ensures
