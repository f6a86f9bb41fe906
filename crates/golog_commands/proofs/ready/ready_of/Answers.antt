use Rattle.std.specs.Prelude.{All, IsSomeAnd, option_map}
use Rattle.std.proofs.lemmas.Result.{IfErr-weaker}
use Rattle.golog_script.specs.ScriptTexts.{HasTexts}
use Rattle.golog_commands.specs.declared.outcome.Input.TheVariants.{Devices as DevicesFile}
use Rattle.golog_commands.specs.Inputs.{ReadsScripts, RefusesScripts}
use Rattle.golog_commands.specs.Outcome.{FileFails, IfEnded, Never, OfFrom, OfScripts}
use Rattle.golog_commands.proofs.OutcomeLemmas.{ended-so, from-fails, scripts-fail}
use Rattle.golog_commands.proofs.FromStarts.{scripts-ready}
use Rattle.golog_commands.proofs.ready.ready_of.Goals as goal

pub returns-in-Ok-clause-texts : goal.returns-in-Ok-clause-texts
returns-in-Ok-clause-texts g c = scripts-ready (All HasTexts) c.in-Ok.scripts c.ready_from.result c.in-Ok.ensures.texts c.ready_from.ensures.scripts

pub returns-in-Ok-clause-scripts : goal.returns-in-Ok-clause-scripts
returns-in-Ok-clause-scripts g c =
    scripts-ready (ReadsScripts (g.F.Files.held c.args.files.now) c.args.agent (option_map (λ file. file.now) c.args.devices)) c.in-Ok.scripts c.ready_from.result
    c.in-Ok.ensures.reads c.ready_from.ensures.scripts

pub returns-in-Ok-clause-begins : goal.returns-in-Ok-clause-begins
returns-in-Ok-clause-begins g c = rw c.in-Ok.ensures.held at c.ready_from.ensures.begins

pub returns-in-Ok-clause-unready : goal.returns-in-Ok-clause-unready
returns-in-Ok-clause-unready g c =
    let held = g.F.Files.held c.args.files.now in
    let first = g.F.Files.faults c.args.files.now in
    let later = g.F.Files.faults c.scripts_in.new.files in
    let now = g.F.Files.faults c.ready_from.new.files in
    let named = option_map (λ file. file.now) c.args.devices in
    let from = option_map (λ file. file.now) c.args.from in
    let agent = c.args.agent in
    IfErr-weaker c.ready_from.result (λ fault. IfEnded fault (OfFrom held later now agent from Never))
    (λ fault. IfEnded fault (OfScripts held first now agent named (λ l. OfFrom held first now agent from Never)))
    (λ fault. ended-so fault (OfFrom held later now agent from Never) (OfScripts held first now agent named (λ l. OfFrom held first now agent from Never))
    (λ outcome. from-fails held first now later c.in-Ok.ensures.faults agent named from c.in-Ok.scripts outcome c.in-Ok.ensures.reads))
    (rw c.in-Ok.ensures.held at c.ready_from.ensures.unready)

pub returns-in-Err-clause-unready : goal.returns-in-Err-clause-unready
returns-in-Err-clause-unready g c =
    let held = g.F.Files.held c.args.files.now in
    let first = g.F.Files.faults c.args.files.now in
    let now = g.F.Files.faults c.scripts_in.new.files in
    let named = option_map (λ file. file.now) c.args.devices in
    let from = option_map (λ file. file.now) c.args.from in
    let agent = c.args.agent in
    ended-so c.in-Err.unready (λ o. IsSomeAnd named (λ file. FileFails DevicesFile (RefusesScripts agent) held file first now o))
    (OfScripts held first now agent named (λ l. OfFrom held first now agent from Never))
    (scripts-fail held first now agent named (λ l. OfFrom held first now agent from Never)) c.in-Err.ensures.unready
