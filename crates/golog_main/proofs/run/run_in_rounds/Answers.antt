use Rattle.std.proofs.Common.{true, length, subst}
use Rattle.std.proofs.lemmas.List.{length-map}
use Rattle.golog_device.specs.Slots.{standings}
use Rattle.golog_commands.specs.Inputs.{script_under, scripts_for}
use Rattle.golog_commands.specs.Runs.{IsReportOf}
use Rattle.golog_commands.specs.Writing.{WritesReport}
use Rattle.golog_commands.proofs.Begun.{none-served}
use Rattle.golog_commands.proofs.Reporting.{on-err}
use Rattle.golog_main.specs.Runs.{RunsOn}
use Rattle.golog_main.proofs.Begun.{enough-boxes}
use Rattle.golog_main.proofs.Reported.{reports-run}
use Rattle.golog_main.proofs.Reporting.{write-more}
use Rattle.golog_main.proofs.run.run_in_rounds.Goals as goal

pub headed_in_rounds-requires : goal.headed_in_rounds-requires
headed_in_rounds-requires g c = record {
  pen = c.in_ok-pen.ensures;
  agent = c.in-Ok.ensures.begun.begun.same_agent;
  lawful = c.in-Ok.ensures.begun.begun.lawful;
  behind = c.in-Ok.ensures.begun.begun.behind;
  boxes =
      enough-boxes (λ d. record { fresh = g.D.Device.fresh d; meaning = g.D.Device.meaning d }) c.args.devices.now c.begun_with.new.devices (length c.args.agent.now.devices)
      _ _ _ _ c.in-Ok.ensures.begun.begun.begun c.requires.formed.small.devices c.requires.boxes;
  ready = c.in-Ok.ensures.begun.begun.ready;
}

pub returns-in-Ok-clause-written : goal.returns-in-Ok-clause-written
returns-in-Ok-clause-written g c =
    let agent = c.args.agent.now in
    let scripts = scripts_for agent c.args.listed.now in
    let before = c.in-Ok.journal in
    let stand = standings g.D.Device.fresh g.D.Device.meaning in
    let olds = stand c.args.devices.now in
    let mids = stand c.begun_with.new.devices in
    let news = stand c.headed_in_rounds.new.devices in
    let taken = g.K.Sink.taken in
    let faults = g.K.Sink.faults in
    subst (λ head. WritesReport (IsReportOf agent scripts true olds news) agent head (taken c.args.out.now) (taken c.headed_in_rounds.new.out) (faults c.args.out.now) (faults c.headed_in_rounds.new.out) c.headed_in_rounds.result) c.in_ok-head.ensures
    (write-more (RunsOn agent true before.entries mids news) (IsReportOf agent scripts true olds news) agent c.in_ok-head.head _ _ _ _ c.headed_in_rounds.result
    (λ report ran. reports-run agent scripts true before olds mids news report c.requires.formed (length-map agent.devices (script_under c.args.listed.now)) c.in-Ok.ensures.begun ran)
    c.headed_in_rounds.ensures)

pub returns-in_err-head-clause-unserved : goal.returns-in_err-head-clause-unserved
returns-in_err-head-clause-unserved g c = on-err c.from_residual.result _ (none-served (standings g.D.Device.fresh g.D.Device.meaning c.args.devices.now))

pub returns-in_err-pen-clause-unserved : goal.returns-in_err-pen-clause-unserved
returns-in_err-pen-clause-unserved g c = on-err c.from_residual-in_err-pen.result _ (none-served (standings g.D.Device.fresh g.D.Device.meaning c.args.devices.now))
