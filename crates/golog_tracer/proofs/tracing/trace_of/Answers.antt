use Rattle.golog_semantics.proofs.Restarted.{started_report}
use Rattle.golog_tracer.proofs.tracing.trace_of.Goals as goal

pub trace-requires-clause-report : goal.trace-requires-clause-report
trace-requires-clause-report c =
    let agent = c.args.agent.now in
    let report = c.args.told.now.report in
    rw c.in_ok-restart_at.ensures.started (started_report agent report.start report c.requires.fits)

pub returns : goal.returns
returns c = rw c.in_ok-restart_at.ensures.started at c.trace.ensures
