use Rattle.std.proofs.Common.{◌<◌, true, false, length, sym, ap, ◌∙◌, subst, rules, arith, refl}
use Rattle.std.specs.Prelude.{IfOk}
use Rattle.golog_tree.specs.declared.cond.Cond.TheVariants as cond
use Rattle.golog_tree.specs.Ground.{sort_size}
use Rattle.golog_known.proofs.Folds.{item_smaller}
use Rattle.golog_tree.proofs.cond.Cond.TheLaws.{the_size}
use Rattle.golog_tree.specs.Ground.{fluent_no}
use Rattle.golog_known.specs.Fits.{CondFitsAt}
use Rattle.golog_semantics.specs.Truth.{arg_value}
use Rattle.golog_flat.specs.Making.{IsMadeOf, Stands}
use Rattle.golog_flat.proofs.Made.{Told, ToldAt, each-fits, equal-fits, is-fits, made-each, made-is, made-not, made-parts, made-plain, no-parts, order-fits, stands-bound, stands-not, stands-part}
use Rattle.golog_flat.proofs.Joins.{ok-then, range-more, take-more}
use Rattle.golog_flat.proofs.making.Making.+flat.Goals as goal

pub by_parts-returns-in-Truth : goal.by_parts-returns-in-Truth
by_parts-returns-in-Truth t c =
    let agent = c.args.self.now.agent.now in
    made-plain agent c.args.cond.now c.in-Truth.plain c.in-Truth.is c.args.env.now c.args.negated c.plain_check.result (c.plain_check.ensures agent)

pub by_parts-place_of-place-requires-clause-fits : goal.by_parts-place_of-place-requires-clause-fits
by_parts-place_of-place-requires-clause-fits t c =
    let agent = c.args.self.now.agent.now in
    is-fits agent c.in-Is.fluent c.as_slice.result.now c.args.env.now
    (subst (λ d. CondFitsAt agent d c.args.env.now) (c.in-Is.is ∙ ap (cond.Is c.in-Is.fluent) (sym c.as_slice.ensures)) c.requires.fits)

pub by_parts-returns-in-Is : goal.by_parts-returns-in-Is
by_parts-returns-in-Is t c =
    let agent = c.args.self.now.agent.now in
    made-is agent c.args.cond.now c.in-Is.fluent c.as_slice.result.now (c.in-Is.is ∙ ap (cond.Is c.in-Is.fluent) (sym c.as_slice.ensures)) c.args.env.now c.args.negated c.truth_check.result
    c.place_of-place.result c.place_of-place.ensures.number (c.truth_check.ensures agent c.place_of-place.ensures.inside)

pub by_parts-equality-requires : goal.by_parts-equality-requires
by_parts-equality-requires t c =
    let agent = c.args.self.now.agent.now in
    equal-fits agent c.in-Equal.sort c.in-Equal.one c.in-Equal.other c.args.env.now (subst (λ d. CondFitsAt agent d c.args.env.now) c.in-Equal.is c.requires.fits)

pub by_parts-order-requires : goal.by_parts-order-requires
by_parts-order-requires t c =
    let agent = c.args.self.now.agent.now in
    order-fits agent true c.in-Less.sort c.in-Less.one c.in-Less.other c.args.env.now (subst (λ d. CondFitsAt agent d c.args.env.now) c.in-Less.is c.requires.fits)

pub by_parts-order-requires-in-AtMost : goal.by_parts-order-requires-in-AtMost
by_parts-order-requires-in-AtMost t c =
    let agent = c.args.self.now.agent.now in
    order-fits agent false c.in-AtMost.sort c.in-AtMost.one c.in-AtMost.other c.args.env.now (subst (λ d. CondFitsAt agent d c.args.env.now) c.in-AtMost.is c.requires.fits)

pub of_negation-check_of-requires : goal.of_negation-check_of-requires
of_negation-check_of-requires t c =
    let stands : Stands c.args.self.now.agent.now c.args.body.now c.args.env.now c.args.bound =
    stands-not c.args.self.now.agent.now c.args.body.now c.args.env.now c.args.bound c.requires in
    search rules

pub of_negation-returns : goal.of_negation-returns
of_negation-returns t c =
    let agent = c.args.self.now.agent.now in
    ok-then _ (IsMadeOf agent (cond.Not c.args.body.now) c.args.env.now c.args.negated)
    (λ k h. made-not agent c.args.body.now c.args.env.now c.args.negated k h)
    c.check_of.result c.check_of.ensures.made

pub of_parts-loop-cond-init : goal.of_parts-loop-cond-init
of_parts-loop-cond-init t c =
    no-parts c.args.self.now.agent.now _ c.joins_all-all.result c.new-parts.result c.new-parts.ensures (λ values. refl)

pub of_parts-check_of-requires : goal.of_parts-check_of-requires
of_parts-check_of-requires t c =
    let inside : c.loop-cond.cond-index < length c.args.conds.now = omega arith in
    let stands : Stands c.args.self.now.agent.now c.cond-item.result c.args.env.now c.args.bound =
    stands-part c.args.self.now.agent.now c.args.conjunction c.args.conds.now c.args.env.now c.args.bound c.loop-cond.cond-index c.cond-item.result inside c.cond-item.is c.requires in
    let smaller = item_smaller the_size c.args.conds.now c.loop-cond.cond-index c.cond-item.result c.cond-item.is inside in
    search rules

pub of_parts-loop-cond-preserved : goal.of_parts-loop-cond-preserved
of_parts-loop-cond-preserved t c =
    let agent = c.args.self.now.agent.now in
    take-more agent c.joins_all-all.result c.loop-cond.parts c.in_ok-part.part _ c.in_ok-push.ensures.ok
    (Told agent c.args.negated c.args.env.now) c.args.conds.now c.loop-cond.cond-index c.cond-item.result c.loop-cond-test.true c.cond-item.is c.loop-cond.invariant c.in_ok-part.ensures.made

pub of_parts-returns : goal.of_parts-returns
of_parts-returns t c =
    made-parts c.args.self.now.agent.now c.args.conjunction c.args.negated c.joins_all-all.result c.loop-cond.parts c.joined.result c.joins_all-all.ensures c.joined.ensures
    c.args.conds.now c.args.env.now c.loop-cond.cond-index (omega arith) c.loop-cond.invariant

pub of_each-loop-constant-init : goal.of_each-loop-constant-init
of_each-loop-constant-init t c =
    no-parts c.args.self.now.agent.now _ c.joins_all-all.result c.new-parts.result c.new-parts.ensures (λ values. refl)

pub of_each-with-requires : goal.of_each-with-requires
of_each-with-requires t c =
    (each-fits c.args.self.now.agent.now c.args.universal c.args.var c.args.sort c.args.body.now c.args.env.now c.requires.fits).variable

pub of_each-check_of-requires : goal.of_each-check_of-requires
of_each-check_of-requires t c =
    let agent = c.args.self.now.agent.now in
    let b = each-fits agent c.args.universal c.args.var c.args.sort c.args.body.now c.args.env.now c.requires.fits in
    let below : c.loop-constant.constant < sort_size agent c.args.sort = omega (arith, c.sort_size-size.ensures.size) in
    let stands = stands-bound agent c.args.body.now c.with.result (subst (λ v. CondFitsAt agent c.args.body.now v) (sym c.with.ensures) (b.fits c.loop-constant.constant below)) in
    search rules

pub of_each-loop-constant-preserved : goal.of_each-loop-constant-preserved
of_each-loop-constant-preserved t c =
    let agent = c.args.self.now.agent.now in
    range-more agent c.joins_all-all.result c.loop-constant.parts c.in_ok-part.part _ c.in_ok-push.ensures.ok
    (ToldAt agent c.args.negated c.args.body.now c.args.env.now c.args.var) c.loop-constant.constant c.loop-constant.invariant
    (subst (λ v. IsMadeOf agent c.args.body.now v c.args.negated c.in_ok-part.part) c.with.ensures c.in_ok-part.ensures.made)

pub of_each-returns : goal.of_each-returns
of_each-returns t c =
    made-each c.args.self.now.agent.now c.args.universal c.args.negated c.joins_all-all.result c.loop-constant.parts c.joined.result c.joins_all-all.ensures c.joined.ensures
    c.args.body.now c.args.env.now c.args.var c.args.sort c.loop-constant.constant (omega (arith, c.sort_size-size.ensures.size)) c.loop-constant.invariant
