use Rattle.std.proofs.Common.{◌≡◌, length}
use Rattle.golog_embedded.proofs.doors.Given as goal

abbrev pub invariant-loop : goal.invariant-loop
invariant-loop l = length l.devices.items ≡ l.counter
