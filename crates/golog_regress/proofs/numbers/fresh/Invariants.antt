use Rattle.std.proofs.Common.{◌≡◌, ◌-◌, ◌≤◌}
use Rattle.std.specs.List.{range_with_len}
use Rattle.golog_regress.specs.Images.{first_free, fresh}
use Rattle.golog_regress.proofs.numbers.fresh.Given as goal

abbrev pub invariant-loop-number : goal.invariant-loop-number
invariant-loop-number l =
    (fresh l.args ≡ first_free l.args (range_with_len l.number (32 - l.number)))
    × (l.number ≤ 32)
