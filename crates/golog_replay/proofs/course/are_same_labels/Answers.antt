use Rattle.std.proofs.Common.{true, false, sym, ◌∙◌}
use Rattle.golog_tree.specs.declared.prog.Label.TheVariants.{Quiet}
use Rattle.golog_replay.proofs.Labels.{emptied, last-label, next-label, no-label}
use Rattle.golog_replay.proofs.course.are_same_labels.Goals as goal

pub returns-in_default : goal.returns-in_default
returns-in_default c =
    let l = c.loop-label in
    sym (no-label c.args.one.now c.args.other.now l.rest.now l.label-index l.invariant Quiet c.loop-label-test.true c.in_default.ensures.cases)

pub returns-then-not-is_same_label : goal.returns-then-not-is_same_label
returns-then-not-is_same_label c =
    let l = c.loop-label in
    sym
    (next-label c.args.one.now c.args.other.now l.rest.now l.label-index l.invariant Quiet c.loop-label-test.true c.in-Some.first.now c.in-Some.later.now
    c.in-Some.ensures.cases.0 false (sym c.is_same_label.ensures ∙ c.if-not-is_same_label.true))

pub loop-label-preserved : goal.loop-label-preserved
loop-label-preserved c =
    let l = c.loop-label in
    next-label c.args.one.now c.args.other.now l.rest.now l.label-index l.invariant Quiet c.loop-label-test.true c.in-Some.first.now c.in-Some.later.now
    c.in-Some.ensures.cases.0 true (sym c.is_same_label.ensures ∙ c.if-not-is_same_label.false)

pub returns : goal.returns
returns c =
    let l = c.loop-label in
    emptied c.is_empty.result l.rest.now c.is_empty.ensures
    ∙ sym (last-label c.args.one.now c.args.other.now l.rest.now l.label-index l.invariant c.loop-label-test.false)
