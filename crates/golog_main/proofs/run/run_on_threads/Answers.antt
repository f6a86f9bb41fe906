use Rattle.std.proofs.Common.{◌≤◌, false, length, IfOk, inl, refl, subst}
use Rattle.std.proofs.lemmas.List.{length-map}
use Rattle.golog_device.specs.Slots.{standings}
use Rattle.golog_commands.specs.Inputs.{script_under, scripts_for}
use Rattle.golog_commands.specs.Runs.{IsReportOf}
use Rattle.golog_commands.specs.Writing.{WritesReport}
use Rattle.golog_commands.proofs.Begun.{begun-unserved, none-served, still-unserved}
use Rattle.golog_commands.proofs.Reporting.{on-err}
use Rattle.golog_main.specs.Runs.{RunsOn}
use Rattle.golog_main.proofs.Begun.{enough-boxes}
use Rattle.golog_main.proofs.Reported.{reports-run}
use Rattle.golog_main.proofs.Reporting.{writes-more}
use Rattle.golog_main.proofs.run.run_on_threads.Goals as goal

pub headed_on_threads-requires : goal.headed_on_threads-requires
headed_on_threads-requires g c = (
  c.type_bounds.send-D,
  (
    c.type_bounds.sync-R,
    (
      c.requires.formed,
      (
        c.in_ok-pen.ensures,
        (
          c.in-Ok.ensures.begun.begun.same_agent,
          (c.in-Ok.ensures.begun.begun.lawful, (c.in-Ok.ensures.begun.begun.behind, (boxes, c.in-Ok.ensures.begun.begun.ready))),
        ),
      ),
    ),
  ),
)
  where
    boxes : length c.args.agent.now.devices ≤ length c.begun_with.new.devices
    boxes =
        enough-boxes (λ d. record { fresh = g.D.Device.fresh d; meaning = g.D.Device.meaning d }) c.args.devices.now c.begun_with.new.devices (length c.args.agent.now.devices)
        _ _ _ _ c.in-Ok.ensures.begun.begun.begun c.requires.formed.small.devices c.requires.boxes

pub returns-in-Ok-clause-written : goal.returns-in-Ok-clause-written
returns-in-Ok-clause-written g c =
    let agent = c.args.agent.now in
    let scripts = scripts_for agent c.args.listed.now in
    let before = c.in-Ok.journal in
    let stand = standings g.D.Device.fresh g.D.Device.meaning in
    let olds = stand c.args.devices.now in
    let mids = stand c.begun_with.new.devices in
    let news = stand c.headed_on_threads.new.devices in
    let taken = g.K.Sink.taken in
    let faults = g.K.Sink.faults in
    subst
    (λ head. IfOk c.headed_on_threads.result (WritesReport (IsReportOf agent scripts false olds news) agent head (taken c.args.out.now) (taken c.headed_on_threads.new.out) (faults c.args.out.now)
    (faults c.headed_on_threads.new.out))) c.in_ok-head.ensures
    (writes-more (RunsOn agent false before.entries mids news) (IsReportOf agent scripts false olds news) agent c.in_ok-head.head _ _ _ _ c.headed_on_threads.result
    (λ report ran. reports-run agent scripts false before olds mids news report c.requires.formed (length-map agent.devices (script_under c.args.listed.now)) c.in-Ok.ensures.begun ran)
    c.headed_on_threads.ensures.written)

pub returns-in-Ok-clause-nothing : goal.returns-in-Ok-clause-nothing
returns-in-Ok-clause-nothing g c = rw c.in_ok-head.ensures at c.headed_on_threads.ensures.nothing

pub returns-in_err-head-clause-nothing : goal.returns-in_err-head-clause-nothing
returns-in_err-head-clause-nothing g c = on-err c.from_residual.result _ (inl refl, refl)

pub returns-in_err-pen-clause-nothing : goal.returns-in_err-pen-clause-nothing
returns-in_err-pen-clause-nothing g c = on-err c.from_residual-in_err-pen.result _ (inl refl, refl)

pub returns-in_err-head-clause-unserved : goal.returns-in_err-head-clause-unserved
returns-in_err-head-clause-unserved g c = on-err c.from_residual.result _ (none-served (standings g.D.Device.fresh g.D.Device.meaning c.args.devices.now))

pub returns-in-Err-clause-nothing : goal.returns-in-Err-clause-nothing
returns-in-Err-clause-nothing g c = (inl refl, refl)

pub returns-in_err-pen-clause-unserved : goal.returns-in_err-pen-clause-unserved
returns-in_err-pen-clause-unserved g c = on-err c.from_residual-in_err-pen.result _ (none-served (standings g.D.Device.fresh g.D.Device.meaning c.args.devices.now))

pub returns-in-Ok-clause-unserved : goal.returns-in-Ok-clause-unserved
returns-in-Ok-clause-unserved g c =
    still-unserved (standings g.D.Device.fresh g.D.Device.meaning) c.args.devices.now c.begun_with.new.devices c.headed_on_threads.new.devices c.headed_on_threads.result
    (begun-unserved _ _ _ _ _ _ c.in-Ok.ensures.begun.begun.begun) c.headed_on_threads.ensures.unserved
