use Rattle.std.proofs.Common.{ap, ◌∙◌}
use Rattle.std.specs.List.{list_any}
use Rattle.golog_semantics.specs.Journal.{lacks_results}
use Rattle.golog_journal.specs.Boards.{AgentJournal}
use Rattle.golog_journal.specs.Quiet.{lacks_by}
use Rattle.golog_journal.proofs.Quieting.{lacks_all_by}
use Rattle.golog_journal.proofs.counts.Counts.lacks_results.Goals as goal

pub returns : goal.returns
returns c =
    let j = c.self.inside in
    c.some_lack_results.ensures
    ∙ ap (list_any lacks_by) c.deref.ensures.value
    ∙ lacks_all_by j.facts j.totals j.standings.items c.self.invariant.tallied
    ∙ ap (λ (v : AgentJournal). lacks_results v.agent v.entries) c.self.view_is
