use Rattle.std.proofs.Common.{Some, false, refl}
use Rattle.std.specs.Prelude.{option_map}
use Rattle.golog_device.specs.Slots.{standings}
use Rattle.golog_commands.specs.Outcome.{outside}
use Rattle.golog_commands.proofs.Begun.{none-served}
use Rattle.golog_words.specs.Commands.{run}
use Rattle.golog_commands.proofs.Reporting.{head-no-faults, left-written, no-more-faults, nothing-left, on-err, runs-reported, unready-nothing, unready-reported}
use Rattle.golog_main.proofs.commands.over_threads.Goals as goal

pub run_on_threads-status-requires-clause-formed : goal.run_on_threads-status-requires-clause-formed
run_on_threads-status-requires-clause-formed g c κs within = c.in-Ok.ensures.ready.begins.formed

pub run_on_threads-status-requires-clause-texts : goal.run_on_threads-status-requires-clause-texts
run_on_threads-status-requires-clause-texts g c κs within = rw c.as_slice.ensures c.in-Ok.ensures.ready.texts

pub run_on_threads-status-requires-clause-sorts : goal.run_on_threads-status-requires-clause-sorts
run_on_threads-status-requires-clause-sorts g c κs within = c.in-Ok.ensures.ready.begins.kept

pub returns-in-Ok-clause-reported : goal.returns-in-Ok-clause-reported
returns-in-Ok-clause-reported g c workers =
    let means = outside g.F.Files.held g.F.Files.faults g.K.Sink.taken g.K.Sink.faults g.D.Device.fresh g.D.Device.meaning in
    runs-reported (means c.args.files.now c.args.out.now c.args.devices.now)
    (means c.ready_in.new.files c.run_on_threads-status.new.out c.run_on_threads-status.new.devices)
    c.args.agent.now (option_map (λ name. name.now) c.args.named) false (option_map (λ name. name.now) c.args.from) workers c.in-Ok.ready c.in-Ok.ensures.ready c.run_on_threads-status.result
    (rw c.as_slice.ensures at c.run_on_threads-status.ensures.written)

pub returns-in-Err-clause-reported : goal.returns-in-Err-clause-reported
returns-in-Err-clause-reported g c workers =
    let means = outside g.F.Files.held g.F.Files.faults g.K.Sink.taken g.K.Sink.faults g.D.Device.fresh g.D.Device.meaning in
    unready-reported (means c.args.files.now c.args.out.now c.args.devices.now)
    (means c.ready_in.new.files c.report_unready.new.out c.args.devices.now)
    c.args.agent.now (option_map (λ name. name.now) c.args.named) false (option_map (λ name. name.now) c.args.from) workers c.in-Err.unready c.report_unready.result
    c.in-Err.ensures.unready refl c.report_unready.ensures

pub returns-in-Ok-clause-nothing : goal.returns-in-Ok-clause-nothing
returns-in-Ok-clause-nothing g c workers =
    let means = outside g.F.Files.held g.F.Files.faults g.K.Sink.taken g.K.Sink.faults g.D.Device.fresh g.D.Device.meaning in
    left-written (means c.args.files.now c.args.out.now c.args.devices.now)
    (means c.ready_in.new.files c.run_on_threads-status.new.out c.run_on_threads-status.new.devices)
    c.args.agent.now (option_map (λ name. name.now) c.args.named) false (option_map (λ name. name.now) c.args.from) workers c.in-Ok.ready c.in-Ok.ensures.ready c.run_on_threads-status.result refl
    c.run_on_threads-status.ensures.nothing

pub returns-in-Ok-clause-no_fault : goal.returns-in-Ok-clause-no_fault
returns-in-Ok-clause-no_fault g c = head-no-faults _ _ _ _ _ c.run_on_threads-status.result c.run_on_threads-status.ensures.nothing

pub returns-in-Err-clause-nothing : goal.returns-in-Err-clause-nothing
returns-in-Err-clause-nothing g c workers =
    let means = outside g.F.Files.held g.F.Files.faults g.K.Sink.taken g.K.Sink.faults g.D.Device.fresh g.D.Device.meaning in
    nothing-left (Some (run c.args.agent.now (option_map (λ name. name.now) c.args.named) false (option_map (λ name. name.now) c.args.from) workers))
    (means c.args.files.now c.args.out.now c.args.devices.now) (means c.ready_in.new.files c.report_unready.new.out c.args.devices.now) c.report_unready.result
    (unready-nothing c.in-Err.unready c.report_unready.result _ _ _ _ c.report_unready.ensures)

pub returns-in-Err-clause-no_fault : goal.returns-in-Err-clause-no_fault
returns-in-Err-clause-no_fault g c =
    no-more-faults _ _ _ _ c.report_unready.result (unready-nothing c.in-Err.unready c.report_unready.result _ _ _ _ c.report_unready.ensures)

pub returns-in-Err-clause-unserved : goal.returns-in-Err-clause-unserved
returns-in-Err-clause-unserved g c = on-err c.report_unready.result _ (none-served (standings g.D.Device.fresh g.D.Device.meaning c.args.devices.now))
