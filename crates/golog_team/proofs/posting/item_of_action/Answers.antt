use Rattle.std.proofs.Common.{◌≡◌, true, Some, None, if◌then◌else◌, sym, ap, ◌∙◌, subst, arith}
use Rattle.golog_tree.specs.Ground.{action_args}
use Rattle.golog_tree.proofs.Numbers.{length-all_from}
use Rattle.golog_ground.specs.Texts.{IsTheOne, WritesAction}
use Rattle.golog_device.proofs.Reading.{action-read}
use Rattle.golog_semantics.specs.declared.journal.Item.TheVariants as item
use Rattle.golog_semantics.specs.Inline.{posted_action}
use Rattle.golog_semantics.specs.Journal.{is_carried_by}
use Rattle.golog_semantics.specs.Text.{action_text}
use Rattle.golog_team.proofs.Matched.{carried-within}
use Rattle.golog_team.proofs.posting.item_of_action.Goals as goal

pub action_text-text-requires-clause-number : goal.action_text-text-requires-clause-number
action_text-text-requires-clause-number c =
    let all = length-all_from c.args.other.now (action_args c.args.other.now) 0 in
    let is = ap (λ a. is_carried_by a 0 c.args.action) (sym c.requires.facts) ∙ sym c.is_carried.ensures ∙ c.if-not-is_carried.false in
    let w = carried-within c.args.other.now c.args.action is in
    omega (arith, all, w)

pub returns-in-Some : goal.returns-in-Some
returns-in-Some c =
    let text = action_text c.args.other.now c.args.action in
    let is = ap (λ a. is_carried_by a 0 c.args.action) (sym c.requires.facts) ∙ sym c.is_carried.ensures ∙ c.if-not-is_carried.false in
    sym (ap (λ b. if b then posted_action c.args.agent.now text else item.Unreadable) is
    ∙ action-read c.args.agent.now text (Some c.in-Some.heard)
    (subst (λ b. IsTheOne (Some c.in-Some.heard) (WritesAction c.args.agent.now b)) (c.as_bytes.ensures.same ∙ c.action_text-text.ensures) c.in-Some.ensures))

pub returns-in-None : goal.returns-in-None
returns-in-None c =
    let text = action_text c.args.other.now c.args.action in
    let is = ap (λ a. is_carried_by a 0 c.args.action) (sym c.requires.facts) ∙ sym c.is_carried.ensures ∙ c.if-not-is_carried.false in
    sym (ap (λ b. if b then posted_action c.args.agent.now text else item.Unreadable) is
    ∙ action-read c.args.agent.now text None
    (subst (λ b. IsTheOne None (WritesAction c.args.agent.now b)) (c.as_bytes.ensures.same ∙ c.action_text-text.ensures) c.in-None.ensures))
