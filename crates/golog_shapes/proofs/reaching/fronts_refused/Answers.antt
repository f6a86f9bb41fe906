use Rattle.std.proofs.Common.{List, length, map, ap, ◌∙◌, arith, replicate}
use Rattle.golog_shapes.specs.declared.fronts.Nesting.{Nesting}
use Rattle.golog_shapes.specs.Settled.{rounds_of}
use Rattle.golog_shapes.specs.Fronts.{nest_round}
use Rattle.golog_shapes.specs.Told.{nesting, reached_each}
use Rattle.golog_shapes.proofs.Reached.{front-added}
use Rattle.golog_shapes.proofs.reaching.fronts_refused.Goals as goal

pub loop-index-preserved : goal.loop-index-preserved
loop-index-preserved c =
    let items = c.in_ok-items.items in
    front-added c.args.procs.now items c.in_ok-items.ensures c.as_slice-reached.result.now c.as_slice-nests.result.now
    (c.as_slice-reached.ensures ∙ c.in_ok-reached_by.ensures ∙ ap reached_each c.as_slice.ensures)
    (c.as_slice-nests.ensures ∙ c.in_ok-nested.ensures ∙ ap (λ (is : List Nesting). rounds_of (nest_round 1025 (map nesting is)) (length is) (replicate (length is) 0)) c.as_slice-2.ensures)
    c.loop-index.index c.index-procs-index.result (omega arith) c.index-procs-index.is c.front_refused-least.result
    (c.front_refused-least.ensures _ c.loop-index.invariant)
