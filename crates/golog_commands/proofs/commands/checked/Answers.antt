use Rattle.golog_file.specs.Spelled.{SpellsAgent, IsFirstRefusal}
use Rattle.golog_check_text.specs.Counts.{check_text}
use Rattle.golog_tree.specs.declared.agent.Agent.{Agent}
use Rattle.std.specs.Prelude.{◌≡◌}
use Rattle.golog_commands.specs.declared.outcome.Input.TheVariants.{Agent as AgentFile}
use Rattle.golog_commands.specs.declared.outcome.Outcome.{Outcome}
use Rattle.golog_commands.specs.declared.outcome.Outcome.TheVariants.{Checked}
use Rattle.golog_commands.proofs.OutcomeLemmas.{agent-comes, file-ends}
use Rattle.golog_commands.proofs.commands.checked.Goals as goal

pub returns-in-Ok : goal.returns-in-Ok
returns-in-Ok g c =
    agent-comes (g.F.Files.held c.args.files.now) c.args.name.now (g.F.Files.faults c.args.files.now) (g.F.Files.faults c.agent_in.new.files)
    (λ (agent : Agent) (outcome : Outcome). outcome ≡ Checked (check_text agent)) c.in-Ok.agent c.checked_of-outcome.result c.in-Ok.ensures.reads c.checked_of-outcome.ensures

pub returns-in-Err : goal.returns-in-Err
returns-in-Err g c =
    let held = g.F.Files.held c.args.files.now in
    let first = g.F.Files.faults c.args.files.now in
    let now = g.F.Files.faults c.agent_in.new.files in
    let next : Agent → Outcome → Type 0 = λ agent outcome. outcome ≡ Checked (check_text agent) in
    file-ends AgentFile held c.args.name.now first now IsFirstRefusal SpellsAgent next c.ended.result c.in-Err.unready c.ended.ensures.outcome c.in-Err.ensures.unready
