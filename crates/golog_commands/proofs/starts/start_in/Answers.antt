use Rattle.std.proofs.Common.{refl}
use Rattle.golog_commands.specs.declared.outcome.Input.TheVariants.{Journal as JournalFile}
use Rattle.golog_commands.specs.declared.outcome.Outcome.{Outcome}
use Rattle.golog_commands.specs.declared.ready.Told.{Told}
use Rattle.golog_commands.specs.Inputs.{RefusesJournal, SpellsJournal}
use Rattle.golog_commands.specs.Outcome.{FileFails, OfJournal}
use Rattle.golog_commands.proofs.OutcomeLemmas.{ended-so, file-comes}
use Rattle.golog_commands.proofs.starts.start_in.Goals as goal

pub returns-in-Ok-clause-reads : goal.returns-in-Ok-clause-reads
returns-in-Ok-clause-reads g c = rw c.in-Some.is (c.in-Ok.values, c.in-Ok.ensures.reads, refl)

pub returns-in-Err-clause-unready : goal.returns-in-Err-clause-unready
returns-in-Err-clause-unready g c =
    let held = g.F.Files.held c.args.files.now in
    let first = g.F.Files.faults c.args.files.now in
    let now = g.F.Files.faults c.values_under.new.files in
    let agent = c.args.agent.now in
    let next : Told → Outcome → Type 0 = λ told outcome. ⊥ in
    rw c.in-Some.is
    (ended-so c.in-Err.unready (FileFails JournalFile (RefusesJournal agent) held c.in-Some.name.now first now) (OfJournal held first now agent c.in-Some.name.now next)
    (file-comes JournalFile held c.in-Some.name.now first now (RefusesJournal agent) (SpellsJournal agent) next) c.in-Err.ensures.unready)
