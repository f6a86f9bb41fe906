use Rattle.std.proofs.Common.{◌≡◌, ◌<◌, true, length, sym, ap, ◌∙◌, rules, arith}
use Rattle.golog_known.proofs.Folds.{item_smaller}
use Rattle.golog_flat.proofs.check.Check.TheLaws.{the_size}
use Rattle.golog_flat.specs.Checks.{check_fits, check_truth, holds_by}
use Rattle.golog_flat.proofs.Parts.{all-hold, all-more, fits-both, fits-either, none-holds, none-more, not-so, one-fits, one-holds, one-not}
use Rattle.golog_flat.proofs.asking.+holds.Goals as goal
use Rattle.golog_flat.proofs.asking.+holds.Goals.{any_holds-else-could_hold-via-else-could_hold, any_holds-else-could_hold-via-then-could_hold+else-check_holds}

pub all_hold-check_holds-requires : goal.all_hold-check_holds-requires
all_hold-check_holds-requires t c =
    let inside : c.loop-part.part-index < length c.args.parts.now = omega arith in
    let fits : check_fits c.args.agent.now c.part-item.result ≡ true = one-fits c.args.agent.now c.args.parts.now c.loop-part.part-index c.part-item.result inside c.part-item.is (sym (fits-both c.args.agent.now c.args.parts.now) ∙ c.requires.fits) in
    let smaller = item_smaller the_size c.args.parts.now c.loop-part.part-index c.part-item.result c.part-item.is inside in
    search rules

pub any_holds-check_holds-requires : goal.any_holds-check_holds-requires
any_holds-check_holds-requires t c =
    let inside : c.loop-part.part-index < length c.args.parts.now = omega arith in
    let fits : check_fits c.args.agent.now c.part-item.result ≡ true = one-fits c.args.agent.now c.args.parts.now c.loop-part.part-index c.part-item.result inside c.part-item.is (sym (fits-either c.args.agent.now c.args.parts.now) ∙ c.requires.fits) in
    let smaller = item_smaller the_size c.args.parts.now c.loop-part.part-index c.part-item.result c.part-item.is inside in
    search rules

pub any_holds-could_hold-requires-clause-fits : goal.any_holds-could_hold-requires-clause-fits
any_holds-could_hold-requires-clause-fits t c =
    let inside : c.loop-part.part-index < length c.args.parts.now = omega arith in
    one-fits c.args.agent.now c.args.parts.now c.loop-part.part-index c.part-item.result inside c.part-item.is (sym (fits-either c.args.agent.now c.args.parts.now) ∙ c.requires.fits)

pub all_hold-returns : goal.all_hold-returns
all_hold-returns t c =
    all-hold c.args.agent.now c.args.values.now c.args.lenient c.args.parts.now c.loop-part.part-index c.loop-part.invariant (omega arith)

pub any_holds-returns : goal.any_holds-returns
any_holds-returns t c =
    none-holds c.args.agent.now c.args.values.now c.args.lenient c.args.parts.now c.loop-part.part-index c.loop-part.invariant (omega arith)

pub all_hold-returns-then-not-check_holds : goal.all_hold-returns-then-not-check_holds
all_hold-returns-then-not-check_holds t c =
    one-not c.args.agent.now c.args.values.now c.args.lenient c.args.parts.now c.loop-part.part-index c.part-item.result c.loop-part-test.true c.part-item.is
    (sym c.check_holds.ensures ∙ c.if-not-check_holds.true)

pub all_hold-loop-part-preserved : goal.all_hold-loop-part-preserved
all_hold-loop-part-preserved t c =
    all-more c.args.agent.now c.args.values.now c.args.lenient c.args.parts.now c.loop-part.part-index c.part-item.result c.loop-part-test.true c.part-item.is
    (sym c.check_holds.ensures ∙ c.if-not-check_holds.false) c.loop-part.invariant

pub any_holds-returns-then-check_holds : goal.any_holds-returns-then-check_holds
any_holds-returns-then-check_holds t c =
    one-holds c.args.agent.now c.args.values.now c.args.lenient c.args.parts.now c.loop-part.part-index c.part-item.result c.loop-part-test.true c.part-item.is
    (sym c.check_holds.ensures ∙ c.if-check_holds.true)

pub any_holds-loop-part-preserved : goal.any_holds-loop-part-preserved
any_holds-loop-part-preserved t c =
    let agent = c.args.agent.now in
    let next = none-more agent c.args.values.now c.args.lenient c.args.parts.now c.loop-part.part-index c.part-item.result c.loop-part-test.true c.part-item.is in
    elim c.else-could_hold.branch [
      | any_holds-else-could_hold-via-then-could_hold+else-check_holds w ↦ next (sym w.check_holds.ensures ∙ w.if-check_holds.false) c.loop-part.invariant
      | any_holds-else-could_hold-via-else-could_hold w ↦ next (not-so (holds_by c.args.lenient (check_truth agent c.args.values.now c.part-item.result)) c.could_hold.ensures w.if-could_hold.false) c.loop-part.invariant
    ]
