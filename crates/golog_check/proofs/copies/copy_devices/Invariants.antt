use Rattle.std.proofs.Common.{◌≡◌, map, take}
use Rattle.golog_tree.specs.declared.draft.DraftDevice.{DraftDevice}
use Rattle.golog_check.proofs.copies.copy_devices.Given as goal

abbrev pub invariant-loop-device : goal.invariant-loop-device
invariant-loop-device l = l.words ≡ map (λ (device : DraftDevice). device.name) (take l.device-index l.devices)
