use Rattle.std.proofs.Common.{arith, ◌≡◌, ◌+◌, ◌*◌, suc, length, get_or, subst}
use Rattle.golog_tree.specs.Ground.{sizes, sort_size, place_of}
use Rattle.golog_tree.proofs.Decoded.{IsPassed, passed-more, passed-small, passed-all, place-small}
use Rattle.golog_tree.proofs.ground.place_of.Goals as goal

pub overflow_add-place : goal.overflow_add-place
overflow_add-place c =
    let agent = c.args.agent.now in
    let sorts = c.args.sorts.now in
    let args = c.args.args.now in
    let next = c.loop-index.place * sort_size agent (get_or sorts c.loop-index.index 0) + get_or args c.loop-index.index 0 in
    let most = passed-small agent sorts args (suc c.loop-index.index) next (place_of (sizes agent sorts) args) c.requires.fits
    (passed-more agent sorts args c.loop-index.index c.loop-index.place _ c.loop-index-test.true c.requires.fits c.loop-index.invariant) in
    let small = place-small agent sorts args c.requires.countable c.requires.few c.requires.fits in
    rw (c.sort_size.ensures.size, c.from.ensures) (omega (arith, most, small))

pub overflow_mul-place : goal.overflow_mul-place
overflow_mul-place c =
    let agent = c.args.agent.now in
    let sorts = c.args.sorts.now in
    let args = c.args.args.now in
    let next = c.loop-index.place * sort_size agent (get_or sorts c.loop-index.index 0) + get_or args c.loop-index.index 0 in
    let most = passed-small agent sorts args (suc c.loop-index.index) next (place_of (sizes agent sorts) args) c.requires.fits
    (passed-more agent sorts args c.loop-index.index c.loop-index.place _ c.loop-index-test.true c.requires.fits c.loop-index.invariant) in
    let small = place-small agent sorts args c.requires.countable c.requires.few c.requires.fits in
    rw (c.sort_size.ensures.size) (omega (arith, most, small))

pub loop-index-preserved : goal.loop-index-preserved
loop-index-preserved c =
    let agent = c.args.agent.now in
    let sorts = c.args.sorts.now in
    let args = c.args.args.now in
    let one : c.loop-index.index + 1 ≡ suc c.loop-index.index = omega arith in
    rw (c.sort_size.ensures.size, c.from.ensures, one)
    (passed-more agent sorts args c.loop-index.index c.loop-index.place _ c.loop-index-test.true c.requires.fits c.loop-index.invariant)

pub returns : goal.returns
returns c =
    let end : c.loop-index.index ≡ length c.args.sorts.now = omega (arith, c.loop-index-test.false, c.loop-index.auto.index-end) in
    passed-all c.args.agent.now c.args.sorts.now c.args.args.now c.loop-index.place _ c.requires.fits
    (subst (λ i. IsPassed c.args.agent.now c.args.sorts.now c.args.args.now i c.loop-index.place (place_of (sizes c.args.agent.now c.args.sorts.now) c.args.args.now))
    end c.loop-index.invariant)
