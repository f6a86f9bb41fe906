use Rattle.std.proofs.Common.{ap}
use Rattle.golog_semantics.specs.Restart.{started}
use Rattle.golog_semantics.proofs.Restarted.{started_report}
use Rattle.golog_ask.proofs.Reported.{reported}
use Rattle.golog_commands.specs.declared.outcome.Outcome.TheVariants.{Asked}
use Rattle.golog_commands.proofs.FromStarts.{cond-again}
use Rattle.golog_commands.proofs.commands.truth_of.Goals as goal

pub ask-requires-clause-entries : goal.ask-requires-clause-entries
ask-requires-clause-entries c =
    let agent = c.args.agent.now in
    let report = c.args.told.now.report in
    rw (c.as_slice.ensures, c.in_ok-restart_at.ensures.started)
    (reported (started agent report.start) report (started_report agent report.start report c.requires.fits))

pub ask-requires-clause-cond : goal.ask-requires-clause-cond
ask-requires-clause-cond c = rw c.in_ok-restart_at.ensures.started (cond-again c.args.agent.now c.args.told.now.report.start c.args.cond.now c.requires.cond)

pub returns : goal.returns
returns c = ap Asked (rw (c.as_slice.ensures, c.in_ok-restart_at.ensures.started) at c.in_ok-truth.ensures)
