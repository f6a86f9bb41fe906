use Rattle.std.proofs.Common.{true, refl}
use Rattle.std.specs.Prelude.{option_map}
use Rattle.golog_device.specs.Slots.{standings}
use Rattle.golog_commands.specs.Outcome.{outside}
use Rattle.golog_commands.proofs.Begun.{none-served}
use Rattle.golog_commands.proofs.Reporting.{on-err, runs-reported, unready-nothing, unready-reported}
use Rattle.golog_main.proofs.commands.over_rounds.Goals as goal

pub run_in_rounds-status-requires-clause-formed : goal.run_in_rounds-status-requires-clause-formed
run_in_rounds-status-requires-clause-formed g c = c.in-Ok.ensures.ready.begins.formed

pub run_in_rounds-status-requires-clause-texts : goal.run_in_rounds-status-requires-clause-texts
run_in_rounds-status-requires-clause-texts g c = rw c.as_slice.ensures c.in-Ok.ensures.ready.texts

pub run_in_rounds-status-requires-clause-sorts : goal.run_in_rounds-status-requires-clause-sorts
run_in_rounds-status-requires-clause-sorts g c = c.in-Ok.ensures.ready.begins.kept

pub returns-in-Ok-clause-reported : goal.returns-in-Ok-clause-reported
returns-in-Ok-clause-reported g c workers =
    let means = outside g.F.Files.held g.F.Files.faults g.K.Sink.taken g.K.Sink.faults g.D.Device.fresh g.D.Device.meaning in
    runs-reported (means c.args.files.now c.args.out.now c.args.devices.now)
    (means c.ready_in.new.files c.run_in_rounds-status.new.out c.run_in_rounds-status.new.devices)
    c.args.agent.now (option_map (λ name. name.now) c.args.named) true (option_map (λ name. name.now) c.args.from) workers c.in-Ok.ready c.in-Ok.ensures.ready c.run_in_rounds-status.result
    (rw c.as_slice.ensures at c.run_in_rounds-status.ensures.written)

pub returns-in-Err-clause-reported : goal.returns-in-Err-clause-reported
returns-in-Err-clause-reported g c workers =
    let means = outside g.F.Files.held g.F.Files.faults g.K.Sink.taken g.K.Sink.faults g.D.Device.fresh g.D.Device.meaning in
    unready-reported (means c.args.files.now c.args.out.now c.args.devices.now)
    (means c.ready_in.new.files c.report_unready.new.out c.args.devices.now)
    c.args.agent.now (option_map (λ name. name.now) c.args.named) true (option_map (λ name. name.now) c.args.from) workers c.in-Err.unready c.report_unready.result
    c.in-Err.ensures.unready refl c.report_unready.ensures

pub returns-in-Err-clause-nothing : goal.returns-in-Err-clause-nothing
returns-in-Err-clause-nothing g c = unready-nothing c.in-Err.unready c.report_unready.result _ _ _ _ c.report_unready.ensures

pub returns-in-Err-clause-unserved : goal.returns-in-Err-clause-unserved
returns-in-Err-clause-unserved g c = on-err c.report_unready.result _ (none-served (standings g.D.Device.fresh g.D.Device.meaning c.args.devices.now))
