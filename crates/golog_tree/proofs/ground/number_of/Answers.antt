use Rattle.std.proofs.Common.{length, map, get_or, arith, subst}
use Rattle.std.proofs.lemmas.List.{length-map}
use Rattle.golog_tree.specs.Ground.{sizes, AreWithin}
use Rattle.golog_tree.proofs.Numbers.{number_of-below}
use Rattle.golog_tree.proofs.Items.{IsItem, few-at, first-is, firsts-long, args_at-is, number_of-is}
use Rattle.golog_tree.proofs.ground.number_of.Goals as goal

pub place_of-requires-clause-few : goal.place_of-requires-clause-few
place_of-requires-clause-few g c =
    few-at c.args.agent.now g.T.HasArgs.arg_sorts c.args.items.now c.args.item c.index-items-item.result _
    (record { below = c.requires.item; sorts_are = c.arg_sorts.ensures; is = c.index-items-item.is }) c.requires.few

pub place_of-requires-clause-fits : goal.place_of-requires-clause-fits
place_of-requires-clause-fits g c =
    subst (λ sorts. AreWithin (sizes c.args.agent.now sorts) c.args.args.now)
    (args_at-is c.args.agent.now g.T.HasArgs.arg_sorts c.args.items.now c.args.item c.index-items-item.result _
    (record { below = c.requires.item; sorts_are = c.arg_sorts.ensures; is = c.index-items-item.is }))
    c.requires.fits

pub bounds-firsts-item : goal.bounds-firsts-item
bounds-firsts-item g c =
    let long = firsts-long c.args.agent.now g.T.HasArgs.arg_sorts c.args.items.now c.args.firsts.now c.requires.firsts in
    omega (arith, long, c.requires.item)

pub offset_bounds-firsts-item : goal.offset_bounds-firsts-item
offset_bounds-firsts-item g c =
    let long = firsts-long c.args.agent.now g.T.HasArgs.arg_sorts c.args.items.now c.args.firsts.now c.requires.firsts in
    omega (arith, long, c.requires.item, c.type_inv.firsts)

pub returns : goal.returns
returns g c =
    number_of-is c.args.agent.now g.T.HasArgs.arg_sorts c.args.items.now c.args.item c.index-items-item.result _ c.args.args.now
    (record { below = c.requires.item; sorts_are = c.arg_sorts.ensures; is = c.index-items-item.is }) _ c.place_of.result
    (first-is c.args.agent.now g.T.HasArgs.arg_sorts c.args.items.now c.args.firsts.now c.requires.firsts c.args.item 0 c.requires.item)
    c.place_of.ensures

pub overflow_add-result : goal.overflow_add-result
overflow_add-result g c =
    let is = number_of-is c.args.agent.now g.T.HasArgs.arg_sorts c.args.items.now c.args.item c.index-items-item.result _ c.args.args.now
    (record { below = c.requires.item; sorts_are = c.arg_sorts.ensures; is = c.index-items-item.is })
    (get_or c.args.firsts.now c.args.item 0) c.place_of.result
    (first-is c.args.agent.now g.T.HasArgs.arg_sorts c.args.items.now c.args.firsts.now c.requires.firsts c.args.item 0 c.requires.item)
    c.place_of.ensures in
    let below = number_of-below c.args.agent.now (map g.T.HasArgs.arg_sorts c.args.items.now) c.args.item c.args.args.now
    (omega (arith, c.requires.item, length-map c.args.items.now g.T.HasArgs.arg_sorts)) c.requires.fits in
    omega (arith, is, below, c.requires.numbered)
