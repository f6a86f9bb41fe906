use Rattle.golog_certain.proofs.WorldsComplete.{stays_complete}
use Rattle.golog_certain.proofs.worlds.worlds_stay_complete.Goals as goal

pub returns : goal.returns
returns c = λ agent w world complete. stays_complete agent w world complete
