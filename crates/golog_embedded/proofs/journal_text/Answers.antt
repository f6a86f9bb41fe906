use Rattle.golog_embedded.proofs.journal_text.Goals as goal

pub returns-clause-journal : goal.returns-clause-journal
returns-clause-journal c = (
  c.in_ok-agent.agent,
  c.in_ok-report.report,
  c.in_ok-agent.ensures.answer,
  record {
    fits = c.in_ok-report.ensures.fits;
    text = c.in_ok-text.ensures;
  },
  c.in_ok-report.ensures.online,
  c.in_ok-report.ensures.begun,
)
