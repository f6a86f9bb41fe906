use Rattle.std.proofs.Common.{◌≡◌, ◌++◌, Some, None, [], true, false, sym, ap, ◌∙◌, subst}
use Rattle.golog_tree.specs.Ground.{AreWithin, action_args, args_at, fluent_args, sizes}
use Rattle.golog_semantics.specs.Truth.{env_of, truth_of}
use Rattle.golog_semantics.specs.Values.{matched_values}
use Rattle.golog_known.specs.Fits.{CondFitsAt}
use Rattle.golog_trace.proofs.Matched.{cond-at, few-found, same-both, truth-none, truth-some}
use Rattle.golog_trace.proofs.effects.Meeting.truth_by.Goals as goal

pub truth_at-requires-clause-few : goal.truth_at-requires-clause-few
truth_at-requires-clause-few c =
    let self = c.args.self.now in
    let agent = self.agent.now in
    let cause = c.args.cause.now in
    let same = same-both cause.action self.action cause.fluent self.fluent (sym c.is_of.ensures ∙ c.if-not-is_of.false) in
    let few =
    few-found agent cause c.requires.agent c.requires.cause self.args.now self.at.now c.in-Some.found
    (subst (λ n. AreWithin (sizes agent (args_at (action_args agent) n)) self.args.now) (sym same.0) c.requires.args)
    (subst (λ n. AreWithin (sizes agent (args_at (fluent_args agent) n)) self.at.now) (sym same.1) c.requires.at)
    (sym c.in_ok-all.ensures ∙ c.in-Some.is) in
    rw c.as_slice.ensures few

pub truth_at-requires-clause-cond : goal.truth_at-requires-clause-cond
truth_at-requires-clause-cond c =
    let self = c.args.self.now in
    let agent = self.agent.now in
    let cause = c.args.cause.now in
    let same = same-both cause.action self.action cause.fluent self.fluent (sym c.is_of.ensures ∙ c.if-not-is_of.false) in
    subst (λ found. CondFitsAt agent cause.cond (env_of found)) (sym c.as_slice.ensures)
    (cond-at agent cause c.requires.agent c.requires.cause self.args.now self.at.now c.in-Some.found
    (subst (λ n. AreWithin (sizes agent (args_at (action_args agent) n)) self.args.now) (sym same.0) c.requires.args)
    (subst (λ n. AreWithin (sizes agent (args_at (fluent_args agent) n)) self.at.now) (sym same.1) c.requires.at)
    (sym c.in_ok-all.ensures ∙ c.in-Some.is))

pub returns-then-not-is_of : goal.returns-then-not-is_of
returns-then-not-is_of c =
    let self = c.args.self.now in
    truth-none self.agent.now self.values.now c.args.cause.now self.action self.args.now self.fluent self.at.now (sym c.is_of.ensures ∙ c.if-not-is_of.true)

pub returns-in-Some : goal.returns-in-Some
returns-in-Some c =
    let self = c.args.self.now in
    let cause = c.args.cause.now in
    ap Some (c.truth_at.ensures ∙ ap (λ found. truth_of self.agent.now self.values.now cause.cond (env_of found)) c.as_slice.ensures)
    ∙ truth-some self.agent.now self.values.now cause self.action self.args.now self.fluent self.at.now (sym c.is_of.ensures ∙ c.if-not-is_of.false)
    (Some c.in-Some.found) (sym c.in-Some.is ∙ c.in_ok-all.ensures)

pub returns-in-None : goal.returns-in-None
returns-in-None c =
    let self = c.args.self.now in
    truth-some self.agent.now self.values.now c.args.cause.now self.action self.args.now self.fluent self.at.now (sym c.is_of.ensures ∙ c.if-not-is_of.false)
    None (sym c.in-None.is ∙ c.in_ok-all.ensures)
