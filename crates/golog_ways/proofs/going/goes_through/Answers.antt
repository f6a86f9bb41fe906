use Rattle.std.proofs.Common.{◌+◌, drop, sym, ap, ◌∙◌, subst, arith}
use Rattle.golog_semantics.specs.declared.Mode.TheVariants.{Must}
use Rattle.golog_semantics.specs.Blocks.{goes_through}
use Rattle.golog_semantics.specs.Truth.{Values}
use Rattle.golog_ways.specs.Searched.{IsSearched}
use Rattle.golog_ways.proofs.GoingThrough.{IsStep, goes-on, led-searched, way-stays}
use Rattle.golog_ways.proofs.going.goes_through.Goals as goal

pub state_after-requires-clause-label : goal.state_after-requires-clause-label
state_after-requires-clause-label c =
    let agent = c.args.agent.now in
    let left = c.loop-way.left.now in
    let there = c.loop-way.there in
    let searched : IsSearched agent left there = c.loop-way.invariant.1 in
    let step : IsStep agent c.requires.agent Must left there searched c.way-item.result = sym c.in_ok-is_certain.ensures ∙ c.if-not-branch.false in
    (way-stays agent c.requires.agent Must left there searched c.way-item.result step).label_fits

pub loop-way-preserved : goal.loop-way-preserved
loop-way-preserved c =
    let agent = c.args.agent.now in
    let left = c.loop-way.left.now in
    let there = c.loop-way.there in
    let way = c.way-item.result in
    let later = drop (c.loop-way.way-index + 1) c.args.rest.now in
    let searched : IsSearched agent left there = c.loop-way.invariant.1 in
    let step : IsStep agent c.requires.agent Must left there searched way = sym c.in_ok-is_certain.ensures ∙ c.if-not-branch.false in (
      c.loop-way.invariant.0 ∙ goes-on agent left there c.args.rest.now c.loop-way.way-index way (omega arith) c.way-item.is step
          ∙ ap (goes_through agent way.left later) (sym c.in_ok-there-2.ensures),
      subst (λ (v : Values). IsSearched agent way.left v) (sym c.in_ok-there-2.ensures) (led-searched agent c.requires.agent Must left there searched way step),
    )
