use Rattle.golog_file.specs.Spelled.{IsFirstRefusal}
use Rattle.golog_file.specs.declared.reading.Understood.{Understood}
use Rattle.golog_commands.specs.declared.outcome.Outcome.{Outcome}
use Rattle.golog_commands.specs.declared.outcome.Input.TheVariants.{Agent as AgentFile}
use Rattle.golog_commands.specs.Inputs.{SpellsBoth}
use Rattle.golog_commands.specs.Outcome.{OfCondition, OfJournal, TruthOf}
use Rattle.golog_commands.proofs.OutcomeLemmas.{both-come, file-ends}
use Rattle.golog_commands.proofs.commands.asked.Goals as goal

pub returns-in-Ok : goal.returns-in-Ok
returns-in-Ok g c =
    let held = g.F.Files.held c.args.files.now in
    let now = g.F.Files.faults c.asked_of-outcome.new.files in
    both-come held c.args.name.now (g.F.Files.faults c.args.files.now) (g.F.Files.faults c.understood_in.new.files) now c.args.journal.now
    (λ (u : Understood) told. OfCondition u.theory u.agent c.args.word.now (TruthOf u.agent told)) c.in-Ok.understood c.asked_of-outcome.result
    c.in-Ok.ensures.faults c.in-Ok.ensures.reads (rw c.in-Ok.ensures.held at c.asked_of-outcome.ensures)

pub returns-in-Err : goal.returns-in-Err
returns-in-Err g c =
    let held = g.F.Files.held c.args.files.now in
    let first = g.F.Files.faults c.args.files.now in
    let now = g.F.Files.faults c.understood_in.new.files in
    let next : Understood → Outcome → Type 0 = λ u. OfJournal held first now u.agent c.args.journal.now (λ told. OfCondition u.theory u.agent c.args.word.now (TruthOf u.agent told)) in
    file-ends AgentFile held c.args.name.now first now IsFirstRefusal SpellsBoth next c.ended.result c.in-Err.unready c.ended.ensures.outcome c.in-Err.ensures.unready
