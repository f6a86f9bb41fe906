use Rattle.std.proofs.Common.{◌≡◌, length, map, sym, ap, ◌∙◌, arith, replicate}
use Rattle.golog_shapes.specs.Settled.{rounds_of}
use Rattle.golog_shapes.specs.Fronts.{nest_round}
use Rattle.golog_shapes.specs.Told.{nesting}
use Rattle.golog_shapes.proofs.Repeats.{stays, goes-on, same-numbers}
use Rattle.golog_shapes.proofs.reaching.nests_of.Goals as goal

pub returns-then-eq : goal.returns-then-eq
returns-then-eq c =
    let round = nest_round 1025 (map nesting c.args.items.now) in
    let count = length c.args.items.now in
    stays round c.loop.counter count (replicate count 0) c.loop.nests c.in_ok-next.next (omega arith) c.loop.invariant
    (c.in_ok-next.ensures ∙ ap round c.as_slice.ensures)
    (sym c.as_slice-in-loop.ensures ∙ same-numbers c.as_slice-in-loop.result.now c.as_slice-in-loop-2.result.now c.eq.result c.eq.ensures c.if-eq.true ∙ c.as_slice-in-loop-2.ensures)

pub loop-preserved : goal.loop-preserved
loop-preserved c =
    let round = nest_round 1025 (map nesting c.args.items.now) in
    goes-on round c.loop.counter (replicate (length c.args.items.now) 0) c.loop.nests c.in_ok-next.next c.loop.invariant
    (c.in_ok-next.ensures ∙ ap round c.as_slice.ensures)

pub returns : goal.returns
returns c =
    let count = length c.args.items.now in
    let all : c.loop.counter ≡ count = omega arith in
    c.loop.invariant ∙ ap (λ n. rounds_of (nest_round 1025 (map nesting c.args.items.now)) n (replicate count 0)) all
