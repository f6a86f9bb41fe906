use Rattle.std.proofs.Common.{Bool, subst, sym}
use Rattle.golog_flat.specs.declared.check.Check.{Check}
use Rattle.golog_flat.specs.Making.{IsMadeOf, cond_order}
use Rattle.golog_flat.proofs.Joins.{ok-then}
use Rattle.golog_flat.proofs.Made.{made-at_most, made-less}
use Rattle.golog_flat.proofs.making.Making.order.Goals as goal

pub returns-then-strict : goal.returns-then-strict
returns-then-strict c =
    let agent = c.args.self.now.agent.now in
    let Made = λ (strict : Bool) (check : Check). IsMadeOf agent (cond_order strict c.args.sort c.args.one.now c.args.other.now) c.args.env.now c.args.negated check in
    ok-then _ (Made c.args.strict)
    (λ k h. subst (λ (strict : Bool). Made strict k) (sym c.if-strict.true)
    (made-less agent c.args.sort c.args.one.now c.args.other.now c.args.env.now c.args.negated c.in_ok-one.one c.in_ok-other.other c.in_ok-one.ensures c.in_ok-other.ensures k
    (h agent c.in_ok-one.ensures.fits c.in_ok-other.ensures.fits)))
    c.order_check.result c.order_check.ensures

pub returns-else-strict : goal.returns-else-strict
returns-else-strict c =
    let agent = c.args.self.now.agent.now in
    let Made = λ (strict : Bool) (check : Check). IsMadeOf agent (cond_order strict c.args.sort c.args.one.now c.args.other.now) c.args.env.now c.args.negated check in
    ok-then _ (Made c.args.strict)
    (λ k h. subst (λ (strict : Bool). Made strict k) (sym c.if-strict.false)
    (made-at_most agent c.args.sort c.args.one.now c.args.other.now c.args.env.now c.args.negated c.in_ok-one.one c.in_ok-other.other c.in_ok-one.ensures c.in_ok-other.ensures k
    (h agent c.in_ok-other.ensures.fits c.in_ok-one.ensures.fits)))
    c.order_check-else-strict.result c.order_check-else-strict.ensures
