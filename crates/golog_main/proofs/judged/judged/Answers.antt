use Rattle.std.proofs.Common.{ap}
use Rattle.golog_semantics.proofs.Restarted.{started_report}
use Rattle.golog_commands.specs.declared.outcome.Outcome.TheVariants.{Judged}
use Rattle.golog_main.proofs.judged.judged.Goals as goal

pub replay-requires-clause-report : goal.replay-requires-clause-report
replay-requires-clause-report c =
    let agent = c.args.agent.now in
    let report = c.args.told.now.report in
    rw c.in_ok-restart_at.ensures.started (started_report agent report.start report c.requires.fits)

pub returns : goal.returns
returns c = record {
  formed = c.requires.formed;
  verdict = c.in_ok-verdict.verdict;
  so = rw (c.as_slice.ensures, c.in_ok-restart_at.ensures.started) at c.in_ok-verdict.ensures;
  is = ap (Judged c.in_ok-verdict.verdict) c.in_ok-text.ensures;
}
