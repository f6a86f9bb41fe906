use Rattle.std.specs.Prelude.{option_map}
use Rattle.std.proofs.lemmas.Result.{IfErr-weaker}
use Rattle.golog_file.specs.Spelled.{IsFirstRefusal, SpellsAgent}
use Rattle.golog_commands.specs.declared.outcome.Input.TheVariants.{Agent as AgentFile}
use Rattle.golog_commands.specs.Outcome.{FileFails, IfEnded, Never, OfAgent, OfFrom, OfScripts}
use Rattle.golog_commands.proofs.OutcomeLemmas.{behind-agent, ended-so, file-comes}
use Rattle.golog_commands.proofs.FromStarts.{run-held}
use Rattle.golog_commands.proofs.ready.ready_in.Goals as goal

pub returns-in-Ok-clause-ready : goal.returns-in-Ok-clause-ready
returns-in-Ok-clause-ready g c =
    let e = c.ready_of.ensures in
    let same = c.in-Ok.ensures.held in
    run-held (g.F.Files.held c.args.files.now) c.args.agent.now (option_map (λ file. file.now) c.args.devices) (option_map (λ file. file.now) c.args.from) c.in-Ok.agent c.ready_of.result
    c.in-Ok.ensures.formed c.in-Ok.ensures.reads e.texts (rw same at e.scripts) (rw same at e.begins)

pub returns-in-Ok-clause-unready : goal.returns-in-Ok-clause-unready
returns-in-Ok-clause-unready g c =
    let held = g.F.Files.held c.args.files.now in
    let first = g.F.Files.faults c.args.files.now in
    let later = g.F.Files.faults c.agent_in.new.files in
    let now = g.F.Files.faults c.ready_of.new.files in
    let name = c.args.agent.now in
    let named = option_map (λ file. file.now) c.args.devices in
    let from = option_map (λ file. file.now) c.args.from in
    let agent = c.in-Ok.agent in
    IfErr-weaker c.ready_of.result
    (λ fault. IfEnded fault (OfScripts held later now agent named (λ l. OfFrom held later now agent from Never)))
    (λ fault. IfEnded fault (OfAgent held first now name (λ a. OfScripts held first now a named (λ l. OfFrom held first now a from Never))))
    (λ fault. ended-so fault (OfScripts held later now agent named (λ l. OfFrom held later now agent from Never))
    (OfAgent held first now name (λ a. OfScripts held first now a named (λ l. OfFrom held first now a from Never)))
    (behind-agent held first now later c.in-Ok.ensures.faults name agent c.in-Ok.ensures.reads named from))
    (rw c.in-Ok.ensures.held at c.ready_of.ensures.unready)

pub returns-in-Err-clause-unready : goal.returns-in-Err-clause-unready
returns-in-Err-clause-unready g c =
    let held = g.F.Files.held c.args.files.now in
    let first = g.F.Files.faults c.args.files.now in
    let now = g.F.Files.faults c.agent_in.new.files in
    let name = c.args.agent.now in
    let named = option_map (λ file. file.now) c.args.devices in
    let from = option_map (λ file. file.now) c.args.from in
    ended-so c.in-Err.unready (FileFails AgentFile IsFirstRefusal held name first now)
    (OfAgent held first now name (λ a. OfScripts held first now a named (λ l. OfFrom held first now a from Never)))
    (file-comes AgentFile held name first now IsFirstRefusal SpellsAgent (λ a. OfScripts held first now a named (λ l. OfFrom held first now a from Never)))
    c.in-Err.ensures.unready
