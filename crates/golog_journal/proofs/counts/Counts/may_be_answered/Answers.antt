use Rattle.std.proofs.Common.{ap, ◌∙◌}
use Rattle.std.specs.List.{list_any}
use Rattle.golog_semantics.specs.Journal.{may_be_answered}
use Rattle.golog_journal.specs.Boards.{AgentJournal}
use Rattle.golog_journal.specs.Quiet.{may_be_answered_by}
use Rattle.golog_journal.proofs.Quieting.{may_be_by}
use Rattle.golog_journal.proofs.counts.Counts.may_be_answered.Goals as goal

pub returns : goal.returns
returns c =
    let j = c.self.inside in
    c.some_may_be_answered.ensures
    ∙ ap (list_any may_be_answered_by) c.deref.ensures.value
    ∙ may_be_by j.facts j.totals j.standings.items c.self.invariant.tallied
    ∙ ap (λ (v : AgentJournal). may_be_answered v.agent v.entries) c.self.view_is
