use Rattle.golog_commands.specs.declared.outcome.Outcome.{Outcome}
use Rattle.golog_commands.specs.declared.ready.Told.{Told}
use Rattle.golog_commands.specs.declared.outcome.Input.TheVariants.{Journal as JournalFile}
use Rattle.golog_commands.specs.Inputs.{RefusesJournal, SpellsJournal}
use Rattle.golog_commands.specs.Outcome.{OfCondition, TruthOf}
use Rattle.golog_commands.proofs.OutcomeLemmas.{file-ends, told-comes}
use Rattle.golog_commands.proofs.commands.asked_of.Goals as goal

pub returns-in-Ok : goal.returns-in-Ok
returns-in-Ok g c =
    let u = c.args.understood.now in
    told-comes (g.F.Files.held c.args.files.now) c.args.journal.now (g.F.Files.faults c.args.files.now) (g.F.Files.faults c.told_in.new.files)
    u.agent (λ told. OfCondition u.theory u.agent c.args.word.now (TruthOf u.agent told)) c.in-Ok.told c.asked_after-outcome.result c.in-Ok.ensures.reads c.asked_after-outcome.ensures

pub returns-in-Err : goal.returns-in-Err
returns-in-Err g c =
    let u = c.args.understood.now in
    let next : Told → Outcome → Type 0 = λ told. OfCondition u.theory u.agent c.args.word.now (TruthOf u.agent told) in
    file-ends JournalFile (g.F.Files.held c.args.files.now) c.args.journal.now (g.F.Files.faults c.args.files.now) (g.F.Files.faults c.told_in.new.files)
    (RefusesJournal u.agent) (SpellsJournal u.agent) next c.ended.result c.in-Err.unready c.ended.ensures.outcome c.in-Err.ensures.unready
