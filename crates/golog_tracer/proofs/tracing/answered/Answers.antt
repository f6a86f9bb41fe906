use Rattle.std.proofs.Common.{arith, string_bytes}
use Rattle.golog_tracer.specs.Traced.{around, traced}
use Rattle.golog_tracer.proofs.Ending.{call-ends, without-trace}
use Rattle.golog_tracer.proofs.tracing.answered.Goals as goal

pub returns-in-Ok : goal.returns-in-Ok
returns-in-Ok g c =
    let before = around g.F.Files.held g.F.Files.faults g.K.Sink.taken g.K.Sink.faults c.args.files.now c.args.out.now in
    let after = around g.F.Files.held g.F.Files.faults g.K.Sink.taken g.K.Sink.faults c.traced.new.files c.written.new.out in
    call-ends string_bytes c.args.words.now c.agent-item.result c.journal-item.result c.as_str.result.now c.as_str-2.result.now
    before after c.written.result (omega (arith, c.in-len2.len_at_least, c.in-len2.len_below)) c.agent-item.is c.journal-item.is
    c.as_str.ensures.value c.as_str-2.ensures.value (traced c.in-Ok.text c.in-Ok.ensures.traced c.written.ensures)

pub returns-in-Err : goal.returns-in-Err
returns-in-Err g c =
    let before = around g.F.Files.held g.F.Files.faults g.K.Sink.taken g.K.Sink.faults c.args.files.now c.args.out.now in
    let after = around g.F.Files.held g.F.Files.faults g.K.Sink.taken g.K.Sink.faults c.traced.new.files c.report_unready.new.out in
    call-ends string_bytes c.args.words.now c.agent-item.result c.journal-item.result c.as_str.result.now c.as_str-2.result.now
    before after c.call_status.result (omega (arith, c.in-len2.len_at_least, c.in-len2.len_below)) c.agent-item.is c.journal-item.is
    c.as_str.ensures.value c.as_str-2.ensures.value
    (without-trace c.as_str.result.now c.as_str-2.result.now before after c.call_status.result c.in-Err.unready c.report_unready.result
    c.in-Err.ensures.untraced c.report_unready.ensures c.call_status.ensures.status c.call_status.ensures.memory)
