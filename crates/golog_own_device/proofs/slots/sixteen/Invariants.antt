use Rattle.std.proofs.Common.{◌≡◌, true, length, All}
use Rattle.golog_own_device.proofs.slots.sixteen.Given as goal

abbrev pub invariant-loop : goal.invariant-loop
invariant-loop g l = record { many : length l.devices.items ≡ l.counter; fresh : All (λ device. g.D.Device.fresh device ≡ true) l.devices.items }
