use Rattle.std.proofs.Common.{sym, ap, ◌∙◌}
use Rattle.golog_semantics.specs.Journal.{device_of}
use Rattle.golog_journal.specs.Boards.{AgentJournal}
use Rattle.golog_journal.proofs.counts.Counts.add_do.Goals as goal

pub add_command-requires-clause-device : goal.add_command-requires-clause-device
add_command-requires-clause-device c =
    ap (λ (w : AgentJournal). device_of w.agent c.args.action) (sym c.self.view_is) ∙ sym c.in-Some.ensures

pub add_step-requires-clause-step : goal.add_step-requires-clause-step
add_step-requires-clause-step c =
    ap (λ (w : AgentJournal). device_of w.agent c.args.action) (sym c.self.view_is) ∙ sym c.in-None.ensures
