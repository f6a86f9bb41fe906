use Rattle.std.proofs.Common.{◌+◌, drop, sym, ap, ◌∙◌, arith}
use Rattle.std.specs.Option.{option_or}
use Rattle.golog_branch.specs.Levels.{link_plan}
use Rattle.golog_branch.proofs.Somes.{first_by, first-next, none-or, some-or}
use Rattle.golog_branch.proofs.tables.first_linked.Goals as goal

pub returns-then-is_some : goal.returns-then-is_some
returns-then-is_some c =
    sym (c.loop-link.invariant ∙ first-next (link_plan c.args.table.now) c.args.links.now c.loop-link.link-index c.link-item.result (omega arith) c.link-item.is
    ∙ ap (λ o. option_or o (first_by (link_plan c.args.table.now) (drop (c.loop-link.link-index + 1) c.args.links.now))) (sym c.in_ok-plan.ensures) ∙ some-or c.in_ok-plan.plan (first_by (link_plan c.args.table.now) (drop (c.loop-link.link-index + 1) c.args.links.now)) (sym c.is_some.ensures ∙ c.if-is_some.true))

pub loop-link-preserved : goal.loop-link-preserved
loop-link-preserved c =
    c.loop-link.invariant ∙ first-next (link_plan c.args.table.now) c.args.links.now c.loop-link.link-index c.link-item.result (omega arith) c.link-item.is
    ∙ ap (λ o. option_or o (first_by (link_plan c.args.table.now) (drop (c.loop-link.link-index + 1) c.args.links.now))) (sym c.in_ok-plan.ensures) ∙ none-or c.in_ok-plan.plan (first_by (link_plan c.args.table.now) (drop (c.loop-link.link-index + 1) c.args.links.now)) (sym c.is_some.ensures ∙ c.if-is_some.false)
