use Rattle.std.proofs.Common.{refl}
use Rattle.golog_device.specs.Slots.{standings}
use Rattle.golog_commands.specs.Outcome.{outside}
use Rattle.golog_commands.proofs.Reporting.{left-alone, none-written, words-reported}
use Rattle.golog_main.proofs.top.answered.Goals as goal

pub returns-in-Err-Refused-clause-reported : goal.returns-in-Err-Refused-clause-reported
returns-in-Err-Refused-clause-reported g c =
    let means = outside g.F.Files.held g.F.Files.faults g.K.Sink.taken g.K.Sink.faults g.D.Device.fresh g.D.Device.meaning in
    words-reported (means c.args.files.now c.args.out.now c.args.devices.now) (means c.args.files.now c.report.new.out c.args.devices.now)
    _ c.report.result (rw c.in-Err-Refused.field-0-is at c.in-Err-Refused.ensures.answers) refl c.report.ensures

pub returns-in-Err-Memory-clause-left : goal.returns-in-Err-Memory-clause-left
returns-in-Err-Memory-clause-left g c = left-alone _ (standings g.D.Device.fresh g.D.Device.meaning c.args.devices.now)

pub returns-in-Err-Memory-clause-nothing : goal.returns-in-Err-Memory-clause-nothing
returns-in-Err-Memory-clause-nothing g c = none-written _ _ _ refl
