use Rattle.std.proofs.Common.{◌≡◌, List, ℕ, map, ap, ◌∙◌, arith}
use Rattle.std.specs.Prelude.{slice_index}
use Rattle.golog_semantics.specs.FrontCalls.{greatest}
use Rattle.golog_shapes.proofs.reaching.nest_with.Goals as goal

pub returns : goal.returns
returns c =
    let called : c.greatest_of.result ≡ greatest (map (slice_index c.args.before.now) c.args.item.now.calls) =
    c.greatest_of.ensures ∙ ap (λ (cs : List ℕ). greatest (map (slice_index c.args.before.now) cs)) c.as_slice.ensures in
    omega arith
