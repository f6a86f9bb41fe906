use Rattle.std.proofs.Common.{get_or, take, sym, ap, ◌∙◌, arith}
use Rattle.std.specs.List.{list_all}
use Rattle.std.proofs.lemmas.List.{take_all}
use Rattle.std.proofs.lemmas.List.Folds.{list_all_at, list_all_more}
use Rattle.golog_semantics.proofs.Tests.{and_both}
use Rattle.golog_flat.specs.Effects.{is_plain_for}
use Rattle.golog_flat.proofs.plain.are_plain.Goals as goal

pub returns-then-not-is_plain_for : goal.returns-then-not-is_plain_for
returns-then-not-is_plain_for c =
    sym (list_all_at (is_plain_for c.args.action) c.args.causes.now c.loop-cause.cause-index c.cause-item.result c.loop-cause-test.true
    (ap (is_plain_for c.args.action) (sym c.cause-item.is) ∙ sym c.is_plain_for.ensures ∙ c.if-not-is_plain_for.true))

pub loop-cause-preserved : goal.loop-cause-preserved
loop-cause-preserved c =
    let p = is_plain_for c.args.action in
    let xs = c.args.causes.now in
    let i = c.loop-cause.cause-index in
    list_all_more p xs i c.cause-item.result c.loop-cause-test.true
    ∙ and_both (list_all p (take i xs)) (p (get_or xs i c.cause-item.result)) c.loop-cause.invariant
    (ap p (sym c.cause-item.is) ∙ sym c.is_plain_for.ensures ∙ c.if-not-is_plain_for.false)

pub returns : goal.returns
returns c =
    sym (ap (list_all (is_plain_for c.args.action)) (sym (take_all c.loop-cause.cause-index c.args.causes.now (omega arith))) ∙ c.loop-cause.invariant)
