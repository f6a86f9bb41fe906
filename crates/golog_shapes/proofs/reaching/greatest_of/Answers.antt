use Rattle.std.proofs.Common.{◌≡◌, List, ℕ, map, sym, ◌∙◌, arith}
use Rattle.std.specs.Prelude.{max, slice_index}
use Rattle.std.proofs.lemmas.List.{at_drop_all}
use Rattle.golog_semantics.specs.FrontCalls.{greatest}
use Rattle.golog_shapes.proofs.Reached.{greatest-goes}
use Rattle.golog_shapes.proofs.reaching.greatest_of.Goals as goal

pub loop-item-preserved : goal.loop-item-preserved
loop-item-preserved c =
    c.loop-item.invariant
    ∙ greatest-goes c.args.nests.now c.args.calls.now c.loop-item.item-index c.loop-item.greatest c.nest_at-nest.result c.max-greatest.result
    (omega arith) c.nest_at-nest.ensures (omega arith)

pub returns : goal.returns
returns c =
    let so_far = c.loop-item.greatest in
    let none : max 0 so_far ≡ so_far = omega arith in
    sym (c.loop-item.invariant
    ∙ at_drop_all (λ (cs : List ℕ). max (greatest (map (slice_index c.args.nests.now) cs)) so_far) c.args.calls.now c.loop-item.item-index (omega arith)
    ∙ none)
