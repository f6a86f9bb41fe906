use Rattle.std.proofs.Common.{◌≡◌, false, sym, ap, ◌∙◌, arith, replicate}
use Rattle.golog_shapes.specs.Settled.{rounds_of}
use Rattle.golog_shapes.proofs.Repeats.{stays, goes-on, same-bools}
use Rattle.golog_shapes.proofs.rounds.rounds_of.Goals as goal

pub returns-then-eq : goal.returns-then-eq
returns-then-eq g c =
    let round = g.R.Round.round c.args.by.now in
    let count = g.R.Round.count c.args.by.now in
    stays round c.loop.counter count (replicate count false) c.loop.said c.in_ok-next.next (omega arith) c.loop.invariant
    (c.in_ok-next.ensures ∙ ap round c.as_slice.ensures)
    (sym c.as_slice-in-loop.ensures ∙ same-bools c.as_slice-in-loop.result.now c.as_slice-in-loop-2.result.now c.eq.result c.eq.ensures c.if-eq.true ∙ c.as_slice-in-loop-2.ensures)

pub loop-preserved : goal.loop-preserved
loop-preserved g c =
    let round = g.R.Round.round c.args.by.now in
    goes-on round c.loop.counter (replicate (g.R.Round.count c.args.by.now) false) c.loop.said c.in_ok-next.next c.loop.invariant
    (c.in_ok-next.ensures ∙ ap round c.as_slice.ensures)

pub returns : goal.returns
returns g c =
    let count = g.R.Round.count c.args.by.now in
    let all : c.loop.counter ≡ count = omega arith in
    c.loop.invariant ∙ ap (λ n. rounds_of (g.R.Round.round c.args.by.now) n (replicate count false)) all
