use Rattle.std.proofs.Common.{◌+◌, map, drop, sym, ap, ◌∙◌, arith}
use Rattle.std.specs.Prelude.{max}
use Rattle.golog_shapes.specs.DraftNest.{draft_nest}
use Rattle.golog_shapes.proofs.NestTo.{below, goes-deeper, goes-last}
use Rattle.golog_shapes.proofs.nesting.+depth.Goals as goal
use Rattle.golog_shapes.proofs.nesting.+depth.Goals.{parts_nest_to-then-index-parts, parts_nest_to-else-index-parts}

pub parts_nest_to-loop-index-preserved : goal.parts_nest_to-loop-index-preserved
parts_nest_to-loop-index-preserved t c =
    let parts = c.args.parts.now in
    let limit = c.args.limit in
    let i = c.loop-index.index in
    elim c.if-index-parts.branch [
      | parts_nest_to-then-index-parts w ↦ record {
        within = omega arith;
        same = c.loop-index.invariant.same
            ∙ goes-deeper parts limit i c.index-parts-index.result (omega arith) c.index-parts-index.is (omega arith) c.loop-index.above c.loop-index.deepest
            c.if-index-parts.above c.max-deepest.result (omega arith) (omega arith);
      }
      | parts_nest_to-else-index-parts w ↦ record {
        within = omega arith;
        same = c.loop-index.invariant.same
            ∙ goes-last parts limit i c.index-parts-index.result (omega arith) c.index-parts-index.is (omega arith) c.loop-index.above c.loop-index.deepest
            c.max-deepest.result (omega arith)
            ∙ ap (λ a. max c.max-deepest.result (below limit a (map draft_nest (drop (i + 1) parts)))) (sym w.above-is);
      }
    ]
