use Rattle.std.specs.Prelude.{option_map}
use Rattle.std.proofs.lemmas.Result.{IfErr-weaker}
use Rattle.golog_file.specs.Spelled.{IsFirstRefusal, SpellsAgent}
use Rattle.golog_commands.specs.declared.outcome.Input.TheVariants.{Agent as AgentFile}
use Rattle.golog_commands.specs.Outcome.{FileFails, IfEnded, Never, OfAgent, OfPlannable, OfScripts}
use Rattle.golog_commands.proofs.OutcomeLemmas.{ended-so, file-comes}
use Rattle.golog_commands.proofs.PlanLemmas.{behind-plannable, planned-held}
use Rattle.golog_commands.proofs.plans.plannable_in.Goals as goal

pub returns-in-Ok-clause-ready : goal.returns-in-Ok-clause-ready
returns-in-Ok-clause-ready g c =
    let e = c.plannable_of.ensures in
    planned-held (g.F.Files.held c.args.files.now) c.args.agent.now (option_map (λ file. file.now) c.args.devices) c.in-Ok.agent c.plannable_of.result
    c.in-Ok.ensures.formed c.in-Ok.ensures.reads e.same e.plannable e.texts (rw c.in-Ok.ensures.held at e.scripts)

pub returns-in-Ok-clause-unready : goal.returns-in-Ok-clause-unready
returns-in-Ok-clause-unready g c =
    let held = g.F.Files.held c.args.files.now in
    let first = g.F.Files.faults c.args.files.now in
    let later = g.F.Files.faults c.agent_in.new.files in
    let now = g.F.Files.faults c.plannable_of.new.files in
    let name = c.args.agent.now in
    let named = option_map (λ file. file.now) c.args.devices in
    let agent = c.in-Ok.agent in
    IfErr-weaker c.plannable_of.result
    (λ fault. IfEnded fault (OfPlannable agent (OfScripts held later now agent named Never)))
    (λ fault. IfEnded fault (OfAgent held first now name (λ a. OfPlannable a (OfScripts held first now a named Never))))
    (λ fault. ended-so fault (OfPlannable agent (OfScripts held later now agent named Never))
    (OfAgent held first now name (λ a. OfPlannable a (OfScripts held first now a named Never)))
    (behind-plannable held first now later c.in-Ok.ensures.faults name agent c.in-Ok.ensures.reads named))
    (rw c.in-Ok.ensures.held at c.plannable_of.ensures.unready)

pub returns-in-Err-clause-unready : goal.returns-in-Err-clause-unready
returns-in-Err-clause-unready g c =
    let held = g.F.Files.held c.args.files.now in
    let first = g.F.Files.faults c.args.files.now in
    let now = g.F.Files.faults c.agent_in.new.files in
    let name = c.args.agent.now in
    let named = option_map (λ file. file.now) c.args.devices in
    ended-so c.in-Err.unready (FileFails AgentFile IsFirstRefusal held name first now)
    (OfAgent held first now name (λ a. OfPlannable a (OfScripts held first now a named Never)))
    (file-comes AgentFile held name first now IsFirstRefusal SpellsAgent (λ a. OfPlannable a (OfScripts held first now a named Never)))
    c.in-Err.ensures.unready
