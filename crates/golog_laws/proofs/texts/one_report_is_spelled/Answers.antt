use Rattle.golog_laws.proofs.TextTells.{one_is_spelled}
use Rattle.golog_laws.proofs.texts.one_report_is_spelled.Goals as goal

pub returns : goal.returns
returns c = one_is_spelled
