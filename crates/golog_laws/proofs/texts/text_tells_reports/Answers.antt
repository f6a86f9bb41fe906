use Rattle.golog_laws.proofs.TextTells.{text_tells}
use Rattle.golog_laws.proofs.texts.text_tells_reports.Goals as goal

pub returns : goal.returns
returns c = text_tells
