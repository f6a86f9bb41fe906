use Rattle.std.proofs.Common.{◌≡◌, length}
use Rattle.golog_main.proofs.Fresh.{AreFresh}
use Rattle.golog_main.proofs.devices.script_devices.Given as goal

abbrev pub invariant-loop : goal.invariant-loop
invariant-loop l = record { many : length l.devices.items ≡ l.counter; fresh : AreFresh l.devices.items }
