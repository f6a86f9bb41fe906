use Rattle.std.proofs.Common.{true, false}
use Rattle.golog_device.specs.Slots.{standings}
use Rattle.golog_main.specs.Runs.{RunsOn}
use Rattle.golog_main.proofs.Reporting.{head-alone, more-ended, rounds-or-threads, write-cut, writes-behind}
use Rattle.golog_main.proofs.run.headed_on_threads.Goals as goal

pub returns-in-Ok-clause-written : goal.returns-in-Ok-clause-written
returns-in-Ok-clause-written g c =
    let taken = g.K.Sink.taken in
    let faults = g.K.Sink.faults in
    let stand = standings g.D.Device.fresh g.D.Device.meaning in
    writes-behind c.args.head (taken c.args.out.now) (taken c.write_head.new.out) (taken c.written_on_threads.new.out)
    (faults c.args.out.now) (faults c.write_head.new.out) (faults c.written_on_threads.new.out) c.in-Ok.ensures.added c.in-Ok.ensures.no_fault
    (RunsOn c.args.agent.now false c.args.journal.entries (stand c.args.devices.now) (stand c.written_on_threads.new.devices)) c.args.agent.now c.written_on_threads.result
    c.written_on_threads.ensures.written

pub returns-in-Ok-clause-nothing : goal.returns-in-Ok-clause-nothing
returns-in-Ok-clause-nothing g c =
    let taken = g.K.Sink.taken in
    let faults = g.K.Sink.faults in
    head-alone c.args.head (taken c.args.out.now) (taken c.write_head.new.out) (taken c.written_on_threads.new.out)
    (faults c.args.out.now) (faults c.write_head.new.out) (faults c.written_on_threads.new.out) c.in-Ok.ensures.added c.in-Ok.ensures.no_fault c.written_on_threads.result
    c.written_on_threads.ensures.nothing

pub returns-in-Err-clause-written : goal.returns-in-Err-clause-written
returns-in-Err-clause-written g c =
    let agent = c.args.agent.now in
    let before = c.args.journal.entries in
    let taken = g.K.Sink.taken in
    let faults = g.K.Sink.faults in
    let stand = standings g.D.Device.fresh g.D.Device.meaning in
    let olds = stand c.args.devices.now in
    let news = stand c.unwritten.new.devices in
    write-cut (RunsOn agent false before olds news) agent c.args.head
    (taken c.args.out.now) (taken c.write_head.new.out) (faults c.args.out.now) (faults c.write_head.new.out) c.unwritten.result c.in-Err.ensures.prefix c.in-Err.ensures.failed
    c.unwritten.ensures.status (more-ended (RunsOn agent true before olds news) (RunsOn agent false before olds news) (rounds-or-threads agent before olds news) c.unwritten.ensures.ended)
