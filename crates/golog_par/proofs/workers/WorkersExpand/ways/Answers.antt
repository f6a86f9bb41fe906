use Rattle.golog_par.proofs.Crossing.{agent_sync}
use Rattle.golog_par.proofs.workers.WorkersExpand.ways.Goals as goal

pub ways_in_parts-requires-sync-G : goal.ways_in_parts-requires-sync-G
ways_in_parts-requires-sync-G g c κs within = record { shared = λ x b o. agent_sync.shared x b o }
