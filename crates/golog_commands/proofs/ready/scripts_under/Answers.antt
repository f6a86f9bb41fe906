use Rattle.std.proofs.Common.{Err, List, subst}
use Rattle.golog_script.specs.declared.scripts.Script.{Script}
use Rattle.golog_script.specs.declared.fault.ScriptFault.{ScriptFault}
use Rattle.golog_script.specs.Reading.{Answers, IsFirstRow}
use Rattle.golog_script.specs.DevicesFile.{scripts_of}
use Rattle.golog_commands.specs.declared.outcome.Input.TheVariants.{Devices as DevicesFile}
use Rattle.golog_commands.specs.Inputs.{RefusesScripts, of_row}
use Rattle.golog_commands.proofs.OutcomeLemmas.{scripts-bytes, refused-so}
use Rattle.golog_commands.proofs.ready.scripts_under.Goals as goal

pub returns-in-Ok-scripts_of-clause-reads : goal.returns-in-Ok-scripts_of-clause-reads
returns-in-Ok-scripts_of-clause-reads g c = record {
  bytes = c.in-Ok.bytes;
  has = c.in-Ok.ensures.read;
  so = record { small = c.in-Ok.ensures.small; spelled = rw c.as_slice.ensures at c.in-Ok-scripts_of.ensures.spelled };
}

pub returns-in-Err-Refused-clause-unready : goal.returns-in-Err-Refused-clause-unready
returns-in-Err-Refused-clause-unready g c =
    let names = c.args.agent.now.devices in
    let bytes = c.as_slice.result.now in
    let fault = c.in-Err-Refused.field-0-is in
    refused-so DevicesFile (g.F.Files.held c.args.files.now) c.args.name.now (g.F.Files.faults c.args.files.now) (g.F.Files.faults c.bytes_in.new.files)
    (RefusesScripts c.args.agent.now) c.refused.result c.in-Ok.bytes c.in-Err-Refused.code c.in-Err-Refused.at c.in-Ok.ensures.read
    (of_row c.in-Err-Refused.code c.in-Err-Refused.at c.in-Ok.ensures.small
    (rw c.as_slice.ensures at (subst {A = ScriptFault} (λ f. Answers (Err f) (scripts_of names bytes)) fault c.in-Err-Refused.ensures.spelled))
    (rw c.as_slice.ensures at (subst {A = ScriptFault} (λ f. IsFirstRow {A = List Script} (Err f) (scripts_of names bytes).rows) fault c.in-Err-Refused.ensures.first)))
    c.refused.ensures

pub returns-in-Err-clause-unready : goal.returns-in-Err-clause-unready
returns-in-Err-clause-unready g c =
    scripts-bytes c.args.agent.now (g.F.Files.held c.args.files.now) c.args.name.now (g.F.Files.faults c.args.files.now) (g.F.Files.faults c.bytes_in.new.files)
    c.in-Err.unready c.in-Err.ensures.unready
