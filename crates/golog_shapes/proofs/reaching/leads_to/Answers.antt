use Rattle.std.proofs.Common.{◌||◌, ◌+◌, drop, sym, ap, ◌∙◌, arith}
use Rattle.std.proofs.lemmas.List.{at_drop_all, at_drop_more}
use Rattle.golog_shapes.specs.Unguarded.{leads_to}
use Rattle.golog_shapes.proofs.reaching.leads_to.Goals as goal

pub returns-then-leads : goal.returns-then-leads
returns-then-leads c =
    let goes = leads_to c.args.goal c.args.said.now in
    let rest = goes (drop (c.loop-item.item-index + 1) c.args.calls.now) in
    sym (c.loop-item.invariant
    ∙ at_drop_more goes c.args.calls.now c.loop-item.item-index 0 (omega arith)
    ∙ ap (λ b. b || rest) (sym c.is_led-leads.ensures ∙ c.if-leads.true))

pub loop-item-preserved : goal.loop-item-preserved
loop-item-preserved c =
    let goes = leads_to c.args.goal c.args.said.now in
    let rest = goes (drop (c.loop-item.item-index + 1) c.args.calls.now) in
    c.loop-item.invariant
    ∙ at_drop_more goes c.args.calls.now c.loop-item.item-index 0 (omega arith)
    ∙ ap (λ b. b || rest) (sym c.is_led-leads.ensures ∙ c.if-leads.false)

pub returns : goal.returns
returns c =
    sym (c.loop-item.invariant ∙ at_drop_all (leads_to c.args.goal c.args.said.now) c.args.calls.now c.loop-item.item-index (omega arith))
