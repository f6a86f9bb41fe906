use Rattle.std.proofs.Common.{◌≡◌, length, All, None, true}
use Rattle.golog_journal.specs.declared.standing.Standing.{Standing}
use Rattle.golog_journal.proofs.standing.standings_of.Given as goal

abbrev pub invariant-loop : goal.invariant-loop
invariant-loop l =
    (length l.standings.items ≡ l.counter)
    × All (λ (standing : Standing). standing.commands ≡ 0) l.standings.items
    × All (λ (standing : Standing). standing.outstanding ≡ 0) l.standings.items
    × All (λ (standing : Standing). standing.rested ≡ None) l.standings.items
    × All (λ (standing : Standing). standing.is_open ≡ true) l.standings.items
