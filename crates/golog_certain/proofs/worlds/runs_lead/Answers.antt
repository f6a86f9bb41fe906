use Rattle.golog_certain.proofs.WorldRuns.{runs_lead}
use Rattle.golog_certain.proofs.worlds.runs_lead.Goals as goal

pub returns : goal.returns
returns c = λ agent g values world r p run h. runs_lead agent g run p values world r h
