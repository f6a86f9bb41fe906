use Rattle.std.proofs.Common.{◌∙◌}
use Rattle.std.proofs.lemmas.List.{length-map}
use Rattle.golog_device.specs.Slots.{standings}
use Rattle.golog_commands.specs.Inputs.{script_under, scripts_for}
use Rattle.golog_commands.proofs.Begun.{as-many, all-spelled, none-served}
use Rattle.golog_commands.proofs.Reporting.{on-err}
use Rattle.golog_commands.proofs.Reported.{begun-scripts}
use Rattle.golog_commands.proofs.beginning.begun_with.Goals as goal

pub begun-journal-requires : goal.begun-journal-requires
begun-journal-requires g c =
    let scripts = scripts_for c.args.agent.now c.args.listed.now in
    record {
      formed = c.requires.formed;
      boxes = c.requires.boxes;
      fresh = c.requires.fresh;
      one_each = as-many c.in_ok-texts.texts scripts c.in_ok-texts.ensures ∙ length-map c.args.agent.now.devices (script_under c.args.listed.now);
      spelled = all-spelled c.in_ok-texts.texts scripts c.in_ok-texts.ensures;
    }

pub returns-clause-begun : goal.returns-clause-begun
returns-clause-begun g c =
    let stand = standings g.D.Device.fresh g.D.Device.meaning in
    begun-scripts c.args.agent.now c.in_ok-texts.texts (scripts_for c.args.agent.now c.args.listed.now) (stand c.args.devices.now) (stand c.begun-journal.new.devices)
    c.begun-journal.result c.in_ok-texts.ensures c.begun-journal.ensures.begun

pub returns-in_err-texts-clause-memory : goal.returns-in_err-texts-clause-memory
returns-in_err-texts-clause-memory g c = on-err c.from_residual.result _ (none-served (standings g.D.Device.fresh g.D.Device.meaning c.args.devices.now))
