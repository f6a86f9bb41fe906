use Rattle.std.proofs.Common.{arith}
use Rattle.golog_ways.proofs.SearchedWays.{free-of}
use Rattle.golog_find.specs.Rows.{lent}
use Rattle.golog_find.specs.Visits.{prog_at}
use Rattle.golog_find.proofs.Numbering.{at-place, goes_on-further, goes_on-same, number-at, searched-at}
use Rattle.golog_find.proofs.deepening.Deepening.visit_all.Goals as goal

pub loop-place-init : goal.loop-place-init
loop-place-init c = (goes_on-same c.args.nodes.now, c.requires.once, c.requires.kept)

pub visit-requires-clause-number : goal.visit-requires-clause-number
visit-requires-clause-number c =
    let states = c.args.states.now in
    let place = c.loop-place.place in
    let n = lent c.at-reached.result in
    let inside = number-at c.args.nodes.now states place n (omega (arith, c.len-place-end.ensures, c.loop-place-test.true)) (at-place states place n c.at-reached.ensures) c.requires.numbers in
    let longer = c.loop-place.invariant.0.longer in
    omega arith

pub visit-requires-clause-once : goal.visit-requires-clause-once
visit-requires-clause-once c = c.loop-place.invariant.1

pub visit-requires-clause-program : goal.visit-requires-clause-program
visit-requires-clause-program c =
    let states = c.args.states.now in
    let place = c.loop-place.place in
    let n = lent c.at-reached.result in
    (searched-at c.args.nodes.now states place n (omega (arith, c.len-place-end.ensures, c.loop-place-test.true)) (at-place states place n c.at-reached.ensures) c.args.self.now.agent.now c.loop-place.nodes
    c.loop-place.invariant.0 c.requires.numbers c.requires.searched).program

pub visit-requires-clause-free : goal.visit-requires-clause-free
visit-requires-clause-free c =
    let agent = c.args.self.now.agent.now in
    let states = c.args.states.now in
    let place = c.loop-place.place in
    let n = lent c.at-reached.result in
    free-of agent (prog_at c.loop-place.nodes n.left) n.state
    (searched-at c.args.nodes.now states place n (omega (arith, c.len-place-end.ensures, c.loop-place-test.true)) (at-place states place n c.at-reached.ensures) agent c.loop-place.nodes
    c.loop-place.invariant.0 c.requires.numbers c.requires.searched)

pub visit-requires-clause-kept : goal.visit-requires-clause-kept
visit-requires-clause-kept c = c.loop-place.invariant.2

pub loop-place-preserved : goal.loop-place-preserved
loop-place-preserved c =
    let done = c.in_ok-visit.ensures in (
      goes_on-further c.args.nodes.now c.loop-place.nodes c.visit.new.nodes c.loop-place.invariant.0 done.goes_on,
      done.once,
      done.kept,
    )
