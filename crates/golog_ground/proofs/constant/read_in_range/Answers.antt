use Rattle.std.proofs.Common.{◌∙◌, to_z-of_z, arith}
use Rattle.std.proofs.lemmas.Int.{ints}
use Rattle.std.specs.Prelude.{◌≤ℤ◌}
use Rattle.golog_ground.proofs.Numbers.{fits-read}
use Rattle.golog_ground.proofs.Ranges.{unmarked, found, position-is}
use Rattle.golog_ground.proofs.constant.read_in_range.Goals as goal

pub returns-in_default-clause-unmarked : goal.returns-in_default-clause-unmarked
returns-in_default-clause-unmarked c = unmarked c.args.low c.args.high c.ranges.low c.ranges.high

pub returns-then-number-low-clause-unmarked : goal.returns-then-number-low-clause-unmarked
returns-then-number-low-clause-unmarked c = unmarked c.args.low c.args.high c.ranges.low c.ranges.high

pub returns-clause-unmarked : goal.returns-clause-unmarked
returns-clause-unmarked c = unmarked c.args.low c.args.high c.ranges.low c.ranges.high

pub returns-clause-the_one : goal.returns-clause-the_one
returns-clause-the_one c =
    let fits = fits-read c.args.bytes.now c.in-Some.number c.in-Some.ensures in
    let l : c.args.low ≤ℤ c.in-Some.number = omega (arith, ints) in
    let m : c.in-Some.number ≤ℤ c.args.high = omega (arith, ints) in
    found c.args.low c.args.high c.ranges.low c.ranges.high c.args.bytes.now c.in-Some.number c.in-Some.ensures _
    (position-is c.in-Some.number c.args.low c.from.result c.from-2.result
    fits c.ranges.low (c.from.ensures ∙ to_z-of_z fits) (c.from-2.ensures ∙ to_z-of_z c.ranges.low) l) m
