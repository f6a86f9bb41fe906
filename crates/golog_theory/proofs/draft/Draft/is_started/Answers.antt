use Rattle.std.proofs.Common.{◌∙◌}
use Rattle.golog_theory.proofs.Starting.{is_started_told}
use Rattle.golog_theory.proofs.draft.Draft.is_started.Goals as goal

pub returns : goal.returns
returns c =
    c.contains.ensures ∙ c.requires.started c.in_ok-cell.cell
    ∙ is_started_told c.args.self.now.theory c.in_ok-cell.cell c.args.fluent c.args.args.now c.in_ok-cell.ensures
