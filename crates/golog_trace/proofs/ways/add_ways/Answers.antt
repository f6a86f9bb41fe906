use Rattle.std.proofs.Common.{sym, subst, arith}
use Rattle.std.specs.Prelude.{IsTrue}
use Rattle.golog_semantics.specs.Fits.{cond_fits, nothing_bound}
use Rattle.golog_semantics.specs.Reports.{fits_label}
use Rattle.golog_fronts.specs.declared.front_lists.Front.{Front}
use Rattle.golog_trace.specs.Ways.{way_text}
use Rattle.golog_trace.proofs.WaysTold.{all-told}
use Rattle.golog_trace.proofs.ways.add_ways.Goals as goal

pub add_way-requires-clause-closed : goal.add_way-requires-clause-closed
add_way-requires-clause-closed c =
    subst (λ (f : Front). IsTrue (cond_fits c.args.agent.now f.cond nothing_bound)) (sym c.front-item.is)
    (c.requires.closed c.loop-front.front-index c.front-item.result c.loop-front-test.true)

pub add_way-requires-clause-label : goal.add_way-requires-clause-label
add_way-requires-clause-label c =
    subst (λ (f : Front). IsTrue (fits_label c.args.agent.now f.label)) (sym c.front-item.is)
    (c.requires.labels c.loop-front.front-index c.front-item.result c.loop-front-test.true)

pub returns : goal.returns
returns c =
    all-told (way_text c.args.agent.now c.args.state.now) c.args.fronts.now c.loop-front.front-index c.args.text.now c.loop-front.text
    (omega (arith, c.loop-front-test.false)) c.loop-front.invariant
