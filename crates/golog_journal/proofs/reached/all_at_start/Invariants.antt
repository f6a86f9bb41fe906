use Rattle.std.proofs.Common.{◌≡◌, length, All}
use Rattle.golog_journal.specs.declared.reached.Reached.{Reached}
use Rattle.golog_journal.specs.Reaching.{at_start}
use Rattle.golog_journal.proofs.reached.all_at_start.Given as goal

abbrev pub invariant-loop : goal.invariant-loop
invariant-loop l =
    (length l.devices.items ≡ l.counter)
    × All (λ (reached : Reached). reached ≡ at_start) l.devices.items
