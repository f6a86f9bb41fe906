use Rattle.std.proofs.Common.{arith, ◌≤◌, ◌+◌, length, ◌∷◌}
use Rattle.golog_check.proofs.SumLaws.{count-small}
use Rattle.golog_check.proofs.sums.+count_in.Goals as goal

pub overflow_mul-result : goal.overflow_mul-result
overflow_mul-result t c =
    let few : length c.in-Some.others.now + 1 ≤ 3 = omega (arith, c.in-Some.ensures.cases.1, c.requires.few) in
    let small = count-small c.args.sorts.now (c.in-Some.sort.now ∷ c.in-Some.others.now) c.requires.small (omega (arith, few)) in
    rw (c.size_in.ensures.size, c.count_in.ensures.count) (omega (arith, small))

pub returns-in-Some-clause-small : goal.returns-in-Some-clause-small
returns-in-Some-clause-small t c =
    let few : length c.in-Some.others.now + 1 ≤ 3 = omega (arith, c.in-Some.ensures.cases.1, c.requires.few) in
    let small = count-small c.args.sorts.now (c.in-Some.sort.now ∷ c.in-Some.others.now) c.requires.small (omega (arith, few)) in
    rw (c.size_in.ensures.size, c.count_in.ensures.count) (omega (arith, small))
