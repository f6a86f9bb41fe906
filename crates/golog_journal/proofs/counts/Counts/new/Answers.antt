use Rattle.std.proofs.Common.{◌≡◌, length, sym, subst, arith}
use Rattle.golog_journal.specs.Tallies.{IsCounted}
use Rattle.golog_journal.proofs.Beginning.{counted-new}
use Rattle.golog_journal.proofs.counts.Counts.new.Goals as goal

pub invariant_of-result : goal.invariant_of-result
invariant_of-result c =
    let told = c.in_ok-standings.ensures.count in
    let count : length c.in_ok-standings.standings.items ≡ length c.args.agent.now.devices = omega (arith, told) in
    subst (λ agent. IsCounted agent c.new-totals.result c.in_ok-standings.standings.items) (sym c.in_ok-facts.ensures)
    (subst (λ entries. IsCounted c.args.agent.now entries c.in_ok-standings.standings.items) (sym c.new-totals.ensures)
    (counted-new c.args.agent.now c.in_ok-standings.standings.items c.requires count c.in_ok-standings.ensures.commands
    c.in_ok-standings.ensures.outstanding c.in_ok-standings.ensures.rested c.in_ok-standings.ensures.is_open))
