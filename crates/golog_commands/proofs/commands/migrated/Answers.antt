use Rattle.golog_tree.specs.declared.agent.Agent.{Agent}
use Rattle.golog_file.specs.Spelled.{SpellsAgent, IsFirstRefusal}
use Rattle.golog_commands.specs.declared.outcome.Outcome.{Outcome}
use Rattle.golog_commands.specs.declared.outcome.Input.TheVariants.{Agent as AgentFile}
use Rattle.golog_commands.specs.Outcome.{MigratedOf, OfJournal}
use Rattle.golog_commands.proofs.OutcomeLemmas.{agent-comes, file-ends, journal-since}
use Rattle.golog_commands.proofs.commands.migrated.Goals as goal

pub returns-in-Ok : goal.returns-in-Ok
returns-in-Ok g c =
    let held = g.F.Files.held c.args.files.now in
    let first = g.F.Files.faults c.args.files.now in
    let later = g.F.Files.faults c.agent_in.new.files in
    let now = g.F.Files.faults c.migrated_of-outcome.new.files in
    let agent = c.in-Ok.agent in
    agent-comes held c.args.name.now first now (λ (a : Agent). OfJournal held first now a c.args.journal.now (MigratedOf a)) agent c.migrated_of-outcome.result c.in-Ok.ensures.reads
    (journal-since held c.args.journal.now first later now agent (MigratedOf agent) c.migrated_of-outcome.result c.in-Ok.ensures.faults
    (rw c.in-Ok.ensures.held at c.migrated_of-outcome.ensures))

pub returns-in-Err : goal.returns-in-Err
returns-in-Err g c =
    let held = g.F.Files.held c.args.files.now in
    let first = g.F.Files.faults c.args.files.now in
    let now = g.F.Files.faults c.agent_in.new.files in
    let next : Agent → Outcome → Type 0 = λ agent. OfJournal held first now agent c.args.journal.now (MigratedOf agent) in
    file-ends AgentFile held c.args.name.now first now IsFirstRefusal SpellsAgent next c.ended.result c.in-Err.unready c.ended.ensures.outcome c.in-Err.ensures.unready
