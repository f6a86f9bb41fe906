use Rattle.std.proofs.Common.{sym, ◌∙◌}
use Rattle.golog_replay.proofs.Steps.{another-breaks, steps-so}
use Rattle.golog_replay.proofs.course.steps_by.Goals as goal

pub returns-then-is_same_label : goal.returns-then-is_same_label
returns-then-is_same_label c =
    steps-so c.args.agent.now c.args.before.now c.args.entry c.args.label c.args.step c.requires.label c.requires.decided
    (sym c.is_same_label.ensures ∙ c.if-is_same_label.true) c.requires.settled c.requires.room

pub returns : goal.returns
returns c =
    another-breaks c.args.agent.now c.args.before.now c.args.entry c.args.label c.args.step c.requires.label c.requires.decided
    (sym c.is_same_label.ensures ∙ c.if-is_same_label.false)
