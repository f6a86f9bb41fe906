use Rattle.std.proofs.Common.{sym, ◌∙◌}
use Rattle.golog_replay.proofs.Steps.{awaited-breaks, full-breaks, other-breaks}
use Rattle.golog_replay.proofs.course.Course.step_of.Goals as goal

pub returns-then-is_full : goal.returns-then-is_full
returns-then-is_full c =
    full-breaks c.args.agent.now c.args.before.now c.args.entry c.args.label c.requires.label (sym c.is_full.ensures ∙ c.if-is_full.true)

pub returns-then-not-is_settled : goal.returns-then-not-is_settled
returns-then-not-is_settled c =
    awaited-breaks c.args.agent.now c.args.before.now c.args.entry c.args.label c.requires.label
    (sym c.is_settled.ensures ∙ c.if-not-is_settled.true)

pub returns-in_default : goal.returns-in_default
returns-in_default c =
    other-breaks c.args.agent.now c.args.before.now c.args.entry c.args.label c.in_ok-decision.decision c.requires.label
    c.in_ok-decision.ensures c.in_default.not-Step

pub steps_by-requires-clause-room : goal.steps_by-requires-clause-room
steps_by-requires-clause-room c = sym c.is_full.ensures ∙ c.if-is_full.false

pub steps_by-requires-clause-settled : goal.steps_by-requires-clause-settled
steps_by-requires-clause-settled c = sym c.is_settled.ensures ∙ c.if-not-is_settled.false

pub steps_by-requires-clause-decided : goal.steps_by-requires-clause-decided
steps_by-requires-clause-decided c = sym c.in-Step.is ∙ c.in_ok-decision.ensures
