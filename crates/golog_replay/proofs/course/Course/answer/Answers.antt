use Rattle.std.proofs.Common.{sym, ◌∙◌}
use Rattle.golog_replay.proofs.Ends.{answer-awaited, answer-decided, answer-full, answer-unanswered}
use Rattle.golog_replay.proofs.course.Course.answer.Goals as goal

pub returns-then-is_full : goal.returns-then-is_full
returns-then-is_full c = sym (answer-full c.args.agent.now c.args.before.now (sym c.is_full.ensures ∙ c.if-is_full.true))

pub returns-then-is_unanswered : goal.returns-then-is_unanswered
returns-then-is_unanswered c =
    sym
    (answer-unanswered c.args.agent.now c.args.before.now (sym c.is_full.ensures ∙ c.if-is_full.false)
    (sym c.is_unanswered.ensures ∙ c.if-is_unanswered.true))

pub returns-then-not-is_settled : goal.returns-then-not-is_settled
returns-then-not-is_settled c =
    sym
    (answer-awaited c.args.agent.now c.args.before.now (sym c.is_full.ensures ∙ c.if-is_full.false)
    (sym c.is_unanswered.ensures ∙ c.if-is_unanswered.false) (sym c.is_settled.ensures ∙ c.if-not-is_settled.true))

pub returns : goal.returns
returns c =
    answer-decided c.args.agent.now c.args.before.now (sym c.is_full.ensures ∙ c.if-is_full.false)
    (sym c.is_unanswered.ensures ∙ c.if-is_unanswered.false) (sym c.is_settled.ensures ∙ c.if-not-is_settled.false)
    c.may_be_answered-comes.result c.is_quiet-quiet.result c.lacks_results-lacks.result c.in_ok-decision.decision c.answer_of-answer.result
    c.answer_of-answer.ensures c.may_be_answered-comes.ensures c.is_quiet-quiet.ensures c.lacks_results-lacks.ensures c.in_ok-decision.ensures
