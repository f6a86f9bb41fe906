use Rattle.std.proofs.Common.{sym, subst}
use Rattle.golog_journal.specs.Boards.{AgentJournal}
use Rattle.golog_journal.specs.Tallies.{IsCounted, IsStep}
use Rattle.golog_journal.proofs.Views.{lawful-inside}
use Rattle.golog_journal.proofs.Pushing.{room-for, counted-step}
use Rattle.golog_journal.proofs.counts.Counts.add_step.Goals as goal

pub add-requires : goal.add-requires
add-requires c =
    let j = c.self.inside in
    let lawful = lawful-inside j.facts j.totals c.args.self.now c.args.entry c.self.view_is c.requires.lawful in
    room-for j.facts j.totals j.standings.items c.self.invariant c.args.entry lawful

pub invariant_of-self : goal.invariant_of-self
invariant_of-self c =
    let j = c.self.inside in
    let lawful = lawful-inside j.facts j.totals c.args.self.now c.args.entry c.self.view_is c.requires.lawful in
    let step : IsStep j.facts c.args.entry = subst (λ (v : AgentJournal). IsStep v.agent c.args.entry) (sym c.self.view_is) c.requires.step in
    subst (λ entries. IsCounted j.facts entries j.standings.items) (sym c.add.ensures)
    (counted-step j.facts j.totals j.standings.items c.self.invariant c.args.entry step lawful)
