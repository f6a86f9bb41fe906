use Rattle.std.proofs.Common.{false, refl}
use Rattle.std.specs.Prelude.{option_map}
use Rattle.golog_device.specs.Slots.{standings}
use Rattle.golog_commands.specs.Outcome.{outside}
use Rattle.golog_commands.proofs.Begun.{none-served}
use Rattle.golog_commands.proofs.Reporting.{on-err, plans-reported, unready-nothing, unready-planned}
use Rattle.golog_main.proofs.plans.plan_on_threads.Goals as goal

pub planned_on_threads-status-requires-clause-formed : goal.planned_on_threads-status-requires-clause-formed
planned_on_threads-status-requires-clause-formed g c κs within = c.in-Ok.ensures.ready.formed

pub planned_on_threads-status-requires-clause-plannable : goal.planned_on_threads-status-requires-clause-plannable
planned_on_threads-status-requires-clause-plannable g c κs within = c.in-Ok.ensures.ready.plannable

pub planned_on_threads-status-requires-clause-texts : goal.planned_on_threads-status-requires-clause-texts
planned_on_threads-status-requires-clause-texts g c κs within = rw c.as_slice-scripts.ensures c.in-Ok.ensures.ready.texts

pub returns-in-Ok-clause-reported : goal.returns-in-Ok-clause-reported
returns-in-Ok-clause-reported g c =
    let means = outside g.F.Files.held g.F.Files.faults g.K.Sink.taken g.K.Sink.faults g.D.Device.fresh g.D.Device.meaning in
    plans-reported (means c.args.files.now c.args.out.now c.args.devices.now)
    (means c.plannable_in.new.files c.planned_on_threads-status.new.out c.planned_on_threads-status.new.devices)
    c.args.depth c.args.fuel c.args.agent.now (option_map (λ name. name.now) c.args.named) false c.in-Ok.ready c.in-Ok.ensures.ready c.plan_journals_are_so.ensures c.planned_on_threads-status.result
    (rw c.as_slice-scripts.ensures at c.planned_on_threads-status.ensures.written)

pub returns-in-Err-clause-reported : goal.returns-in-Err-clause-reported
returns-in-Err-clause-reported g c =
    let means = outside g.F.Files.held g.F.Files.faults g.K.Sink.taken g.K.Sink.faults g.D.Device.fresh g.D.Device.meaning in
    unready-planned (means c.args.files.now c.args.out.now c.args.devices.now)
    (means c.plannable_in.new.files c.report_unready.new.out c.args.devices.now)
    c.args.depth c.args.fuel c.args.agent.now (option_map (λ name. name.now) c.args.named) false c.in-Err.unready c.report_unready.result
    c.in-Err.ensures.unready refl c.report_unready.ensures

pub returns-in-Err-clause-nothing : goal.returns-in-Err-clause-nothing
returns-in-Err-clause-nothing g c = unready-nothing c.in-Err.unready c.report_unready.result _ _ _ _ c.report_unready.ensures

pub returns-in-Err-clause-unserved : goal.returns-in-Err-clause-unserved
returns-in-Err-clause-unserved g c = on-err c.report_unready.result _ (none-served (standings g.D.Device.fresh g.D.Device.meaning c.args.devices.now))
