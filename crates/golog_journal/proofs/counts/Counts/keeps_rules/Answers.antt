use Rattle.std.proofs.Common.{◌≤◌, length, subst}
use Rattle.golog_semantics.specs.Journal.{longest}
use Rattle.golog_journal.specs.Agents.{ServesDevices}
use Rattle.golog_journal.specs.Boards.{AgentJournal, IsBoardList}
use Rattle.golog_journal.proofs.Pushing.{counted-short}
use Rattle.golog_journal.proofs.counts.Counts.keeps_rules.Goals as goal

pub returns-clause-serves : goal.returns-clause-serves
returns-clause-serves c = subst (λ (v : AgentJournal). ServesDevices v.agent) c.self.view_is c.self.invariant.serves

pub returns-clause-lawful : goal.returns-clause-lawful
returns-clause-lawful c = subst (λ (v : AgentJournal). IsBoardList v.agent v.entries) c.self.view_is c.self.invariant.lawful

pub returns-clause-short : goal.returns-clause-short
returns-clause-short c =
    let j = c.self.inside in
    subst (λ (v : AgentJournal). length v.entries ≤ longest) c.self.view_is (counted-short j.facts j.totals j.standings.items c.self.invariant)
