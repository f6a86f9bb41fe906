use Rattle.std.proofs.Common.{ap, ◌∙◌}
use Rattle.std.specs.List.{list_all}
use Rattle.golog_semantics.specs.Journal.{is_quiet}
use Rattle.golog_journal.specs.Boards.{AgentJournal}
use Rattle.golog_journal.specs.Quiet.{is_quiet_by}
use Rattle.golog_journal.proofs.Quieting.{quiet_by}
use Rattle.golog_journal.proofs.counts.Counts.is_quiet.Goals as goal

pub returns : goal.returns
returns c =
    let j = c.self.inside in
    c.all_quiet.ensures
    ∙ ap (list_all is_quiet_by) c.deref.ensures.value
    ∙ quiet_by j.facts j.totals j.standings.items c.self.invariant.tallied
    ∙ ap (λ (v : AgentJournal). is_quiet v.agent v.entries) c.self.view_is
