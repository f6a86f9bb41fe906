use Rattle.std.proofs.Common.{◌≡◌, ◌<◌, ◌≤◌, ◌+◌, true, Some, None, length, get_or, sym, ap, ◌∙◌, subst, arith}
use Rattle.golog_tree.specs.Ground.{Ground}
use Rattle.golog_semantics.specs.WellFormed.{cause_fits}
use Rattle.golog_trace.specs.Effects.{effect_if, first_of, truth_for}
use Rattle.golog_trace.proofs.Matched.{from, from-next, from-none, not-some, one-of}
use Rattle.golog_trace.proofs.effects.Meeting.first.Goals as goal

pub truth_by-requires-clause-cause : goal.truth_by-requires-clause-cause
truth_by-requires-clause-cause c =
    let agent = c.args.self.now.agent.now in
    let number = c.loop-number.number in
    let item = c.cause-item.result in
    let same = c.as_slice-cause-items.ensures in
    let inside : number < length agent.causes = subst (λ cs. number < length cs) same c.loop-number-test.true in
    subst (λ x. cause_fits agent x ≡ true) (sym c.cause-item.is)
    (subst (λ cs. cause_fits agent (get_or cs number item) ≡ true) (sym same)
    (one-of (cause_fits agent) agent.causes number item c.requires.agent.actions_fit.causes inside))

pub returns-in-Some : goal.returns-in-Some
returns-in-Some c =
    let self = c.args.self.now in
    let agent = self.agent.now in
    let action : Ground = (self.action, self.args.now) in
    let fluent : Ground = (self.fluent, self.at.now) in
    let number = c.loop-number.number in
    let item = c.cause-item.result in
    let same = c.as_slice-cause-items.ensures in
    let inside : number < length agent.causes = subst (λ cs. number < length cs) same c.loop-number-test.true in
    sym
    (c.loop-number.invariant
    ∙ from-next agent self.values.now action fluent agent.causes number item inside
    ∙ ap (λ o. first_of o (from agent self.values.now action fluent agent.causes (number + 1)))
    (ap (λ x. effect_if number (truth_for agent self.values.now x action fluent)) (ap (λ cs. get_or cs number item) (sym same) ∙ sym c.cause-item.is)
    ∙ ap (effect_if number) (sym c.in_ok-truth.ensures) ∙ sym c.told.ensures ∙ c.in-Some.is))

pub loop-number-preserved : goal.loop-number-preserved
loop-number-preserved c =
    let self = c.args.self.now in
    let agent = self.agent.now in
    let action : Ground = (self.action, self.args.now) in
    let fluent : Ground = (self.fluent, self.at.now) in
    let number = c.loop-number.number in
    let item = c.cause-item.result in
    let same = c.as_slice-cause-items.ensures in
    let inside : number < length agent.causes = subst (λ cs. number < length cs) same c.loop-number-test.true in
    c.loop-number.invariant
    ∙ from-next agent self.values.now action fluent agent.causes number item inside
    ∙ ap (λ o. first_of o (from agent self.values.now action fluent agent.causes (number + 1)))
    (ap (λ x. effect_if number (truth_for agent self.values.now x action fluent)) (ap (λ cs. get_or cs number item) (sym same) ∙ sym c.cause-item.is)
    ∙ ap (effect_if number) (sym c.in_ok-truth.ensures) ∙ sym c.told.ensures ∙ not-some c.told.result c.in_default.not-Some)

pub returns : goal.returns
returns c =
    let self = c.args.self.now in
    let agent = self.agent.now in
    let number = c.loop-number.number in
    let all : length agent.causes ≤ number = subst (λ cs. length cs ≤ number) c.as_slice-cause-items.ensures c.loop-number-test.false in
    sym (c.loop-number.invariant ∙ from-none agent self.values.now (self.action, self.args.now) (self.fluent, self.at.now) agent.causes number all)
