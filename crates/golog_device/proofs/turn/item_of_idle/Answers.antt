use Rattle.std.proofs.Common.{Some, None, sym, ap, ◌∙◌, subst}
use Rattle.golog_ground.specs.Texts.{IsTheOne, WritesAction}
use Rattle.golog_device.specs.Turns.{idle_item}
use Rattle.golog_device.proofs.Reading.{action-read}
use Rattle.golog_device.proofs.turn.item_of_idle.Goals as goal

pub returns-in-Some : goal.returns-in-Some
returns-in-Some c =
    sym (action-read c.args.agent.now c.in-Post.bytes (Some c.in-Some.action)
    (subst (λ b. IsTheOne (Some c.in-Some.action) (WritesAction c.args.agent.now b)) c.as_slice.ensures c.in-Some.ensures))
    ∙ ap (idle_item c.args.agent.now) (sym c.in-Post.is)

pub returns-in-None : goal.returns-in-None
returns-in-None c =
    sym (action-read c.args.agent.now c.in-Post.bytes None
    (subst (λ b. IsTheOne None (WritesAction c.args.agent.now b)) c.as_slice.ensures c.in-None.ensures))
    ∙ ap (idle_item c.args.agent.now) (sym c.in-Post.is)
