use Rattle.std.proofs.Common.{◌≡◌, ◌&&◌, true, false, sym, ap, ◌∙◌}
use Rattle.std.specs.Cmp.Lexicographic.{pointwise}
use Rattle.golog_semantics.specs.Same.{same_prog, same_way}
use Rattle.golog_semantics.proofs.SamePrograms.{same-by, same_run-by}
use Rattle.golog_watch.proofs.watch.is_whole.Goals as goal

pub returns-then-is_same_prog : goal.returns-then-is_same_prog
returns-then-is_same_prog c =
    let whole = c.args.whole.now in
    let body = c.args.body.now in
    let run = c.args.run.now in
    let rest = c.args.rest.now in
    let same : true ≡ same_prog whole body = sym c.if-is_same_prog.true ∙ same-by c.is_same_prog.result whole body c.is_same_prog.ensures in
    same_run-by c.are_same_ways.result run rest c.are_same_ways.ensures ∙ ap (λ b. b && pointwise same_way run rest) same

pub returns-else-is_same_prog : goal.returns-else-is_same_prog
returns-else-is_same_prog c =
    let whole = c.args.whole.now in
    let body = c.args.body.now in
    let differ : false ≡ same_prog whole body = sym c.if-is_same_prog.false ∙ same-by c.is_same_prog.result whole body c.is_same_prog.ensures in
    c.if-is_same_prog.false ∙ ap (λ b. b && pointwise same_way c.args.run.now c.args.rest.now) differ
