use Rattle.std.proofs.Common.{◌≡◌, ℕ, ◌+◌, ◌<◌, length, map, take, subst, sym, ◌∙◌, rules, arith}
use Rattle.std.specs.List.{range_with_len}
use Rattle.std.specs.Prelude.{slice_set}
use Rattle.golog_tree.specs.declared.cond.Cond.{Cond}
use Rattle.golog_tree.specs.declared.cond.Truth.TheVariants.{Yes, No}
use Rattle.golog_tree.proofs.cond.Cond.TheLaws.{the_size}
use Rattle.golog_tree.specs.Ground.{sort_size}
use Rattle.golog_semantics.specs.Truth.{and_of, or_of, truth_of}
use Rattle.golog_known.specs.Fits.{CondFitsAt}
use Rattle.golog_known.proofs.Evaluated.{parts-And, parts-Or, body-ForSome, body-ForAll}
use Rattle.golog_known.proofs.Folds.{item_smaller, all-And, all-Or, and_of-take, or_of-take, and_of-range, or_of-range, some-And, some-Or, some-ForAll, some-ForSome}
use Rattle.golog_known.proofs.valuation.+value.Goals as goal

pub all_of-loop-cond-preserved : goal.all_of-loop-cond-preserved
all_of-loop-cond-preserved t c =
    let e = and_of-take (λ (d : Cond). truth_of c.args.agent.now c.args.values.now d c.args.env.now) c.args.conds.now c.loop-cond.cond-index c.cond-item.result (omega arith) in
    cc

pub any_of-loop-cond-preserved : goal.any_of-loop-cond-preserved
any_of-loop-cond-preserved t c =
    let e = or_of-take (λ (d : Cond). truth_of c.args.agent.now c.args.values.now d c.args.env.now) c.args.conds.now c.loop-cond.cond-index c.cond-item.result (omega arith) in
    cc

pub for_all-loop-constant-preserved : goal.for_all-loop-constant-preserved
for_all-loop-constant-preserved t c =
    let e = and_of-range (λ (k : ℕ). truth_of c.args.agent.now c.args.values.now c.args.body.now (slice_set c.args.env.now c.args.var k)) c.loop-constant.constant in
    cc

pub for_some-loop-witness-preserved : goal.for_some-loop-witness-preserved
for_some-loop-witness-preserved t c =
    let e = or_of-range (λ (k : ℕ). truth_of c.args.agent.now c.args.values.now c.args.body.now (slice_set c.args.env.now c.args.var k)) c.loop-witness.witness in
    cc

pub all_of-returns-then-eq : goal.all_of-returns-then-eq
all_of-returns-then-eq t c =
    let settled : c.both-all.result ≡ No = search rules in
    let e = and_of-take (λ (d : Cond). truth_of c.args.agent.now c.args.values.now d c.args.env.now) c.args.conds.now c.loop-cond.cond-index c.cond-item.result (omega arith) in
    let none : and_of (map (λ (d : Cond). truth_of c.args.agent.now c.args.values.now d c.args.env.now) (take (c.loop-cond.cond-index + 1) c.args.conds.now)) ≡ No = cc in
    settled ∙ some-And c.args.agent.now c.args.values.now c.args.conds.now c.args.env.now (c.loop-cond.cond-index + 1) none

pub any_of-returns-then-eq : goal.any_of-returns-then-eq
any_of-returns-then-eq t c =
    let settled : c.either-any.result ≡ Yes = search rules in
    let e = or_of-take (λ (d : Cond). truth_of c.args.agent.now c.args.values.now d c.args.env.now) c.args.conds.now c.loop-cond.cond-index c.cond-item.result (omega arith) in
    let some : or_of (map (λ (d : Cond). truth_of c.args.agent.now c.args.values.now d c.args.env.now) (take (c.loop-cond.cond-index + 1) c.args.conds.now)) ≡ Yes = cc in
    settled ∙ some-Or c.args.agent.now c.args.values.now c.args.conds.now c.args.env.now (c.loop-cond.cond-index + 1) some

pub for_all-returns-then-eq : goal.for_all-returns-then-eq
for_all-returns-then-eq t c =
    let settled : c.both-all.result ≡ No = search rules in
    let k = c.loop-constant.constant in
    let e = and_of-range (λ (d : ℕ). truth_of c.args.agent.now c.args.values.now c.args.body.now (slice_set c.args.env.now c.args.var d)) k in
    let none : and_of (map (λ (d : ℕ). truth_of c.args.agent.now c.args.values.now c.args.body.now (slice_set c.args.env.now c.args.var d)) (range_with_len 0 (k + 1))) ≡ No = cc in
    settled ∙ some-ForAll c.args.agent.now c.args.values.now c.args.var c.args.sort c.args.body.now c.args.env.now (k + 1) (omega arith) none

pub for_some-returns-then-eq : goal.for_some-returns-then-eq
for_some-returns-then-eq t c =
    let settled : c.either-some.result ≡ Yes = search rules in
    let k = c.loop-witness.witness in
    let e = or_of-range (λ (d : ℕ). truth_of c.args.agent.now c.args.values.now c.args.body.now (slice_set c.args.env.now c.args.var d)) k in
    let some : or_of (map (λ (d : ℕ). truth_of c.args.agent.now c.args.values.now c.args.body.now (slice_set c.args.env.now c.args.var d)) (range_with_len 0 (k + 1))) ≡ Yes = cc in
    settled ∙ some-ForSome c.args.agent.now c.args.values.now c.args.var c.args.sort c.args.body.now c.args.env.now (k + 1) (omega arith) some

pub all_of-returns : goal.all_of-returns
all_of-returns t c =
    all-And c.args.agent.now c.args.values.now c.args.conds.now c.args.env.now c.loop-cond.cond-index c.loop-cond.all c.loop-cond.invariant (omega arith)

pub any_of-returns : goal.any_of-returns
any_of-returns t c =
    all-Or c.args.agent.now c.args.values.now c.args.conds.now c.args.env.now c.loop-cond.cond-index c.loop-cond.any c.loop-cond.invariant (omega arith)

pub all_of-part-requires : goal.all_of-part-requires
all_of-part-requires t c =
    let inside : c.loop-cond.cond-index < length c.args.conds.now = omega arith in
    let parts = parts-And c.args.agent.now c.args.env.now c.args.conds.now c.requires.fits in
    let fits : CondFitsAt c.args.agent.now c.cond-item.result c.args.env.now = subst (λ d. CondFitsAt c.args.agent.now d c.args.env.now) (sym c.cond-item.is) (parts c.loop-cond.cond-index c.cond-item.result inside) in
    let smaller = item_smaller the_size c.args.conds.now c.loop-cond.cond-index c.cond-item.result c.cond-item.is inside in
    search rules

pub any_of-part-requires : goal.any_of-part-requires
any_of-part-requires t c =
    let inside : c.loop-cond.cond-index < length c.args.conds.now = omega arith in
    let parts = parts-Or c.args.agent.now c.args.env.now c.args.conds.now c.requires.fits in
    let fits : CondFitsAt c.args.agent.now c.cond-item.result c.args.env.now = subst (λ d. CondFitsAt c.args.agent.now d c.args.env.now) (sym c.cond-item.is) (parts c.loop-cond.cond-index c.cond-item.result inside) in
    let smaller = item_smaller the_size c.args.conds.now c.loop-cond.cond-index c.cond-item.result c.cond-item.is inside in
    search rules

pub for_some-value-requires : goal.for_some-value-requires
for_some-value-requires t c =
    let body = body-ForSome c.args.agent.now c.args.env.now c.args.var c.args.sort c.args.body.now c.requires.fits in
    let below : c.loop-witness.witness < sort_size c.args.agent.now c.args.sort = omega arith in
    let fits : CondFitsAt c.args.agent.now c.args.body.now c.with.result = subst (λ e. CondFitsAt c.args.agent.now c.args.body.now e) (sym c.with.ensures) (body.fits c.loop-witness.witness below) in
    search rules

pub for_all-value-requires : goal.for_all-value-requires
for_all-value-requires t c =
    let body = body-ForAll c.args.agent.now c.args.env.now c.args.var c.args.sort c.args.body.now c.requires.fits in
    let below : c.loop-constant.constant < sort_size c.args.agent.now c.args.sort = omega arith in
    let fits : CondFitsAt c.args.agent.now c.args.body.now c.with.result = subst (λ e. CondFitsAt c.args.agent.now c.args.body.now e) (sym c.with.ensures) (body.fits c.loop-constant.constant below) in
    search rules
