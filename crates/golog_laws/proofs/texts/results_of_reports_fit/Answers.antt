use Rattle.golog_laws.proofs.ResultsFit.{results_fit}
use Rattle.golog_laws.proofs.texts.results_of_reports_fit.Goals as goal

pub returns : goal.returns
returns c = results_fit
