use Rattle.golog_commands.specs.declared.outcome.Input.TheVariants.{Journal as JournalFile}
use Rattle.golog_commands.specs.Inputs.{RefusesJournal, SpellsJournal}
use Rattle.golog_commands.specs.Outcome.{MigratedOf}
use Rattle.golog_commands.proofs.OutcomeLemmas.{file-ends, told-comes}
use Rattle.golog_commands.proofs.commands.migrated_of.Goals as goal

pub written_out-requires-clause-fits : goal.written_out-requires-clause-fits
written_out-requires-clause-fits g c = rw c.without_bytes.ensures c.in-Ok.ensures.fits

pub returns-in-Ok : goal.returns-in-Ok
returns-in-Ok g c =
    let agent = c.args.agent.now in
    told-comes (g.F.Files.held c.args.files.now) c.args.journal.now (g.F.Files.faults c.args.files.now) (g.F.Files.faults c.told_in.new.files)
    agent (MigratedOf agent) c.in-Ok.told c.written_out.result c.in-Ok.ensures.reads (rw c.without_bytes.ensures at c.written_out.ensures)

pub returns-in-Err : goal.returns-in-Err
returns-in-Err g c =
    let agent = c.args.agent.now in
    file-ends JournalFile (g.F.Files.held c.args.files.now) c.args.journal.now (g.F.Files.faults c.args.files.now) (g.F.Files.faults c.told_in.new.files)
    (RefusesJournal agent) (SpellsJournal agent) (MigratedOf agent) c.ended.result c.in-Err.unready c.ended.ensures.outcome c.in-Err.ensures.unready
