use Rattle.golog_par.proofs.Crossing.{agent_sync}
use Rattle.golog_par.proofs.workers.WorkersExpand.open.Goals as goal

pub open_in_parts-requires-sync-G : goal.open_in_parts-requires-sync-G
open_in_parts-requires-sync-G g c κs within = record { shared = λ x b o. agent_sync.shared x b o }
