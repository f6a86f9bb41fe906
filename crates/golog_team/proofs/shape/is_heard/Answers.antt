use Rattle.std.proofs.Common.{Some, None, sym, ap, ◌∙◌, subst}
use Rattle.golog_ground.specs.Texts.{IsTheOne, WritesAction}
use Rattle.golog_device.proofs.Reading.{action-read}
use Rattle.golog_semantics.specs.Journal.{may_post}
use Rattle.golog_semantics.specs.Text.{action_text}
use Rattle.golog_team.specs.Shapes.{may_hear}
use Rattle.golog_team.proofs.shape.is_heard.Goals as goal

pub returns-in-Some : goal.returns-in-Some
returns-in-Some c =
    c.may_post.ensures ∙ ap (λ a. may_post a 0 c.in-Some.heard) c.requires.facts
    ∙ sym (ap (may_hear c.args.other.now)
    (action-read c.args.other.now (action_text c.args.agent.now c.args.action) (Some c.in-Some.heard)
    (subst (λ b. IsTheOne (Some c.in-Some.heard) (WritesAction c.args.other.now b)) (c.as_bytes.ensures.same ∙ c.action_text-text.ensures) c.in-Some.ensures)))

pub returns-in-None : goal.returns-in-None
returns-in-None c =
    sym (ap (may_hear c.args.other.now)
    (action-read c.args.other.now (action_text c.args.agent.now c.args.action) None
    (subst (λ b. IsTheOne None (WritesAction c.args.other.now b)) (c.as_bytes.ensures.same ∙ c.action_text-text.ensures) c.in-None.ensures)))
