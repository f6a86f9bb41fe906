use Rattle.golog_threads.proofs.Crossing.{agent_sync}
use Rattle.golog_threads.proofs.run.run_sealed.Goals as goal

pub run_named-requires-sync-G : goal.run_named-requires-sync-G
run_named-requires-sync-G g c κs within = record { shared = λ x b o. agent_sync.shared x b o }
