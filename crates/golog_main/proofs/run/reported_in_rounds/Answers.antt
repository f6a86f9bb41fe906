use Rattle.std.proofs.Common.{true, length}
use Rattle.std.proofs.lemmas.List.{length-map}
use Rattle.golog_device.specs.Slots.{standings}
use Rattle.golog_commands.specs.Inputs.{script_under, scripts_for}
use Rattle.golog_main.proofs.Begun.{enough-boxes}
use Rattle.golog_main.proofs.Reported.{reports-run}
use Rattle.golog_main.proofs.run.reported_in_rounds.Goals as goal

pub in_rounds-requires : goal.in_rounds-requires
in_rounds-requires g c = record {
  runner = c.in_ok-runner.ensures;
  agent = c.in-Ok.ensures.begun.begun.same_agent;
  lawful = c.in-Ok.ensures.begun.begun.lawful;
  behind = c.in-Ok.ensures.begun.begun.behind;
  boxes =
      enough-boxes (λ d. record { fresh = g.D.Device.fresh d; meaning = g.D.Device.meaning d }) c.args.devices.now c.begun_with.new.devices (length c.args.agent.now.devices)
      _ _ _ _ c.in-Ok.ensures.begun.begun.begun c.requires.formed.small.devices c.requires.boxes;
  ready = c.in-Ok.ensures.begun.begun.ready;
}

pub returns-in-Ok : goal.returns-in-Ok
returns-in-Ok g c =
    let agent = c.args.agent.now in
    let stand = standings g.D.Device.fresh g.D.Device.meaning in
    reports-run agent (scripts_for agent c.args.listed.now) true c.in-Ok.journal (stand c.args.devices.now) (stand c.begun_with.new.devices) (stand c.in_rounds.new.devices)
    c.in_rounds.result c.requires.formed (length-map agent.devices (script_under c.args.listed.now)) c.in-Ok.ensures.begun c.in_rounds.ensures
