use Rattle.std.proofs.Common.{sym, subst}
use Rattle.golog_journal.specs.Boards.{AgentJournal}
use Rattle.golog_journal.specs.Reaching.{IsReached}
use Rattle.golog_journal.proofs.Reaching.{all-further}
use Rattle.golog_journal.proofs.journal.Journal.reach.Goals as goal

pub invariant_of-self : goal.invariant_of-self
invariant_of-self c =
    let j = c.self.inside in
    let reached = subst (λ (v : AgentJournal). IsReached v.agent v.entries c.args.poster c.reached_at-reached.result) (sym c.self.view_is) c.reached_at-reached.ensures.reached in
    (c.self.invariant.0, all-further j.counts.agent j.counts.entries j.reached.items c.self.invariant.1 c.args.poster c.reached_at-reached.result reached)
