use Rattle.std.proofs.Common.{true}
use Rattle.golog_device.specs.Slots.{standings}
use Rattle.golog_main.specs.Runs.{RunsOn}
use Rattle.golog_main.proofs.Reporting.{write-behind, write-cut}
use Rattle.golog_main.proofs.run.headed_in_rounds.Goals as goal

pub returns-in-Ok : goal.returns-in-Ok
returns-in-Ok g c =
    let taken = g.K.Sink.taken in
    let faults = g.K.Sink.faults in
    let stand = standings g.D.Device.fresh g.D.Device.meaning in
    write-behind c.args.head (taken c.args.out.now) (taken c.write_head.new.out) (taken c.written_in_rounds.new.out)
    (faults c.args.out.now) (faults c.write_head.new.out) (faults c.written_in_rounds.new.out) c.in-Ok.ensures.added c.in-Ok.ensures.no_fault
    (RunsOn c.args.agent.now true c.args.journal.entries (stand c.args.devices.now) (stand c.written_in_rounds.new.devices)) c.args.agent.now c.written_in_rounds.result c.written_in_rounds.ensures

pub returns-in-Err : goal.returns-in-Err
returns-in-Err g c =
    let taken = g.K.Sink.taken in
    let faults = g.K.Sink.faults in
    let stand = standings g.D.Device.fresh g.D.Device.meaning in
    write-cut (RunsOn c.args.agent.now true c.args.journal.entries (stand c.args.devices.now) (stand c.unwritten.new.devices)) c.args.agent.now c.args.head
    (taken c.args.out.now) (taken c.write_head.new.out) (faults c.args.out.now) (faults c.write_head.new.out) c.unwritten.result c.in-Err.ensures.prefix c.in-Err.ensures.failed
    c.unwritten.ensures.status c.unwritten.ensures.ended
