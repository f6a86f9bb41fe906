use Rattle.golog_tracer.specs.Traced.{IsTraceOf, IsTraceWith}
use Rattle.golog_tracer.proofs.Ending.{without-agent, without-journal}
use Rattle.golog_tracer.proofs.Handed.{if-ok-more}
use Rattle.golog_tracer.proofs.tracing.traced.Goals as goal

pub returns-in-Ok-clause-traced : goal.returns-in-Ok-clause-traced
returns-in-Ok-clause-traced g c =
    let agent = c.in-Ok.agent in
    let held = g.F.Files.held c.args.files.now in
    if-ok-more (IsTraceWith held agent c.args.journal.now) (IsTraceOf held c.args.name.now c.args.journal.now) c.traced_of-text.result
    (λ text is. record { agent = agent; reads = c.in-Ok.ensures.reads; traces = is })
    (rw c.in-Ok.ensures.held at c.traced_of-text.ensures.traced)

pub returns-in-Ok-clause-untraced : goal.returns-in-Ok-clause-untraced
returns-in-Ok-clause-untraced g c =
    without-journal (g.F.Files.held c.args.files.now) c.args.name.now c.args.journal.now (g.F.Files.faults c.args.files.now)
    (g.F.Files.faults c.traced_of-text.new.files) c.traced_of-text.result c.in-Ok.agent (g.F.Files.faults c.agent_in.new.files)
    c.in-Ok.ensures.faults c.in-Ok.ensures.reads (rw c.in-Ok.ensures.held at c.traced_of-text.ensures.untraced)

pub returns-in-Err-clause-untraced : goal.returns-in-Err-clause-untraced
returns-in-Err-clause-untraced g c =
    without-agent (g.F.Files.held c.args.files.now) c.args.name.now c.args.journal.now (g.F.Files.faults c.args.files.now)
    (g.F.Files.faults c.agent_in.new.files) c.in-Err.unready c.in-Err.ensures.unready
