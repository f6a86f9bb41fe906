use Rattle.std.proofs.Common.{◌≡◌, true, false, sym, ◌∙◌, arith}
use Rattle.golog_semantics.specs.Same.{same_way}
use Rattle.golog_ways.proofs.GoingThrough.{any-here, any-later}
use Rattle.golog_semantics.proofs.SamePrograms.{same_way-by}
use Rattle.golog_ways.proofs.going.is_among.Goals as goal

pub returns-then-is_same_way : goal.returns-then-is_same_way
returns-then-is_same_way c =
    let way = c.args.way.now in
    let other = c.other-item.result in
    let same : same_way way other ≡ true = sym (same_way-by c.is_same_way.result way other c.is_same_way.ensures) ∙ c.if-is_same_way.true in
    sym (c.loop-other.invariant ∙ any-here way c.args.ways.now c.loop-other.other-index other (omega arith) c.other-item.is same)

pub loop-other-preserved : goal.loop-other-preserved
loop-other-preserved c =
    let way = c.args.way.now in
    let other = c.other-item.result in
    let same : same_way way other ≡ false = sym (same_way-by c.is_same_way.result way other c.is_same_way.ensures) ∙ c.if-is_same_way.false in
    c.loop-other.invariant ∙ any-later way c.args.ways.now c.loop-other.other-index other (omega arith) c.other-item.is same
