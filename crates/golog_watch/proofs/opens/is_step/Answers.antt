use Rattle.std.proofs.Common.{◌≡◌, ◌&&◌, true, false, sym, ap, ◌∙◌}
use Rattle.golog_semantics.specs.Same.{same_label, same_prog}
use Rattle.golog_semantics.proofs.SamePrograms.{same-by}
use Rattle.golog_watch.proofs.opens.is_step.Goals as goal

pub returns-then-is_same_label : goal.returns-then-is_same_label
returns-then-is_same_label c =
    let way = c.args.way.now in
    let front = c.args.front.now in
    let label : true ≡ same_label way.label front.label = sym c.if-is_same_label.true ∙ c.is_same_label.ensures in
    same-by c.is_same_prog.result way.left front.left c.is_same_prog.ensures ∙ ap (λ b. b && same_prog way.left front.left) label

pub returns-else-is_same_label : goal.returns-else-is_same_label
returns-else-is_same_label c =
    let way = c.args.way.now in
    let front = c.args.front.now in
    let label : false ≡ same_label way.label front.label = sym c.if-is_same_label.false ∙ c.is_same_label.ensures in
    c.if-is_same_label.false ∙ ap (λ b. b && same_prog way.left front.left) label
