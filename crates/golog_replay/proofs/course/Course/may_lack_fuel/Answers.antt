use Rattle.std.proofs.Common.{◌≡◌, sym, ◌∙◌, subst}
use Rattle.std.specs.Prelude.{IfOk}
use Rattle.golog_semantics.specs.Heavy.{heavy}
use Rattle.golog_replay.proofs.Ends.{fuel-awaited, fuel-full, fuel-heavy, fuel-unanswered}
use Rattle.golog_replay.proofs.Steps.{left-fits}
use Rattle.golog_replay.proofs.course.Course.may_lack_fuel.Goals as goal

pub heavy-requires-clause-program : goal.heavy-requires-clause-program
heavy-requires-clause-program c =
    left-fits c.args.agent.now c.args.before.now c.args.self.now.left c.requires.formed c.requires.left_so

pub returns-then-is_full : goal.returns-then-is_full
returns-then-is_full c = sym (fuel-full c.args.agent.now c.args.before.now (sym c.is_full.ensures ∙ c.if-is_full.true))

pub returns-then-is_unanswered : goal.returns-then-is_unanswered
returns-then-is_unanswered c =
    sym (fuel-unanswered c.args.agent.now c.args.before.now (sym c.is_unanswered.ensures ∙ c.if-is_unanswered.true))

pub returns-then-not-is_settled : goal.returns-then-not-is_settled
returns-then-not-is_settled c =
    sym (fuel-awaited c.args.agent.now c.args.before.now (sym c.is_settled.ensures ∙ c.if-not-is_settled.true))

pub returns : goal.returns
returns c =
    let agent = c.args.agent.now in
    subst (λ h. IfOk c.heavy.result (λ b. b ≡ h))
    ((λ i. heavy agent (c.requires.values_so i) (c.requires.left_so i))
    ∙ sym
    (fuel-heavy agent c.args.before.now (sym c.is_full.ensures ∙ c.if-is_full.false)
    (sym c.is_unanswered.ensures ∙ c.if-is_unanswered.false) (sym c.is_settled.ensures ∙ c.if-not-is_settled.false)))
    c.heavy.ensures
