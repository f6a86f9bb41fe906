use Rattle.std.proofs.Common.{◌≡◌, true, length, All}
use Rattle.golog_run_tests.proofs.slots.sixteen.Given as goal

abbrev pub invariant-loop-slot : goal.invariant-loop-slot
invariant-loop-slot g l = record { many : length l.devices.items ≡ l.slot; fresh : All (λ device. g.D.Device.fresh device ≡ true) l.devices.items }
