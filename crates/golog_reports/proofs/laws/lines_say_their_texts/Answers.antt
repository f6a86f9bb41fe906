use Rattle.std.proofs.Common.{sym, ap, ◌∙◌}
use Rattle.golog_reports.specs.Said.{said_in}
use Rattle.golog_reports.proofs.SaidBack.{said-back}
use Rattle.golog_reports.proofs.SaidOnly.{said-only}
use Rattle.golog_reports.proofs.laws.lines_say_their_texts.Goals as goal

pub returns : goal.returns
returns c = λ line said. (said-only line said, λ forms text. ap said_in (sym text) ∙ said-back said forms)
