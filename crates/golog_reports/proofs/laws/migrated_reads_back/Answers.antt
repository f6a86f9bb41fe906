use Rattle.golog_reports.proofs.Migrated.{migrated-reads-back}
use Rattle.golog_reports.proofs.laws.migrated_reads_back.Goals as goal

pub returns : goal.returns
returns c = migrated-reads-back
