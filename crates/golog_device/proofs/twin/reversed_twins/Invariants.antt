use Rattle.std.proofs.Common.{◌≡◌, ◌++◌, reverse, length}
use Rattle.golog_device.proofs.twin.reversed_twins.Given as goal

abbrev pub invariant-loop-value : goal.invariant-loop-value
invariant-loop-value g l = l.initial.values ≡ l.values ++ reverse l.twins.items

abbrev pub decreases-loop-value : goal.decreases-loop-value
decreases-loop-value g l = length l.values
