use Rattle.golog_semantics.specs.Restart.{started}
use Rattle.golog_commands.specs.Inputs.{RefusesJournal}
use Rattle.golog_commands.specs.Outcome.{FileFails}
use Rattle.golog_commands.specs.declared.outcome.Input.TheVariants.{Journal as JournalFile}
use Rattle.golog_trace.specs.Traced.{IsTrace}
use Rattle.golog_tracer.specs.Traced.{IsTraceWith}
use Rattle.golog_tracer.proofs.Ending.{if-memory}
use Rattle.golog_tracer.proofs.Handed.{handed, if-ok-more}
use Rattle.golog_tracer.proofs.tracing.traced_of.Goals as goal

pub returns-in-Ok-clause-traced : goal.returns-in-Ok-clause-traced
returns-in-Ok-clause-traced g c =
    let agent = c.args.agent.now in
    let told = c.in-Ok.told in
    let held = g.F.Files.held c.args.files.now in
    if-ok-more (IsTrace (started agent told.report.start) told.report) (IsTraceWith held agent c.args.journal.now) c.ready.result
    (λ text is. record { told = told; reads = c.in-Ok.ensures.reads; is_trace = is })
    (handed c.trace_of-text.result c.ready.result (IsTrace (started agent told.report.start) told.report) c.ready.ensures.text c.trace_of-text.ensures)

pub returns-in-Ok-clause-untraced : goal.returns-in-Ok-clause-untraced
returns-in-Ok-clause-untraced g c =
    if-memory c.ready.result
    (FileFails JournalFile (RefusesJournal c.args.agent.now) (g.F.Files.held c.args.files.now) c.args.journal.now
    (g.F.Files.faults c.args.files.now) (g.F.Files.faults c.told_in.new.files)) c.ready.ensures.memory
