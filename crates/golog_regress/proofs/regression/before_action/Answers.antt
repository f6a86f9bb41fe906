use Rattle.std.proofs.Common.{◌<◌, ◌∷◌, [], map, take, ap, ◌∙◌, subst}
use Rattle.std.proofs.lemmas.List.{length-map}
use Rattle.golog_tree.specs.declared.cond.Arg.TheVariants.{Const}
use Rattle.golog_semantics.proofs.SortsStay.{has_at}
use Rattle.golog_progress.proofs.Ruled.{count-actions, few-args}
use Rattle.golog_regress.specs.declared.event.Event.TheVariants.{Did}
use Rattle.golog_regress.specs.declared.happened.Happened.{Happened}
use Rattle.golog_regress.specs.Causes.{action_sorts}
use Rattle.golog_regress.specs.Regressed.{cond_back}
use Rattle.golog_regress.specs.Regression.{IsRegressed}
use Rattle.golog_regress.proofs.Events.{if-so, over_action}
use Rattle.golog_regress.proofs.regression.before_action.Goals as goal

pub action_of-ground-requires-clause-number : goal.action_of-ground-requires-clause-number
action_of-ground-requires-clause-number c = subst (λ n. c.args.action < n) (count-actions c.args.agent.now) c.requires.action

pub shared_ref_as_front-constants : goal.shared_ref_as_front-constants
shared_ref_as_front-constants c =
    let few = few-args c.args.agent.now c.requires.agent c.action_of-ground.result.item c.action_of-ground.ensures.declared in
    rw c.from.ensures (rw c.action_of-ground.ensures.count few)

pub returns : goal.returns
returns c =
    let agent = c.args.agent.now in
    let ground = c.action_of-ground.result in
    let vals = take ground.count ground.args in
    let happened : Happened = record { action = ground.item; sorts = c.in_ok-sorts_of_action.field-0; args = c.in_ok-constants.field-0 } in
    let item = has_at agent.actions ground.item (subst (λ n. ground.item < n) (length-map agent.actions (λ i. i.args)) c.action_of-ground.ensures.declared) in
    if-so (λ answer. IsRegressed agent (Did c.args.action ∷ []) c.args.cond.now answer) (cond_back agent happened c.as_slice.result.now c.args.cond.now) c.cond_back.result c.cond_back.ensures
    (λ answer same.
    over_action agent c.requires.agent c.args.action item.item vals happened c.action_of-ground.ensures.named c.action_of-ground.ensures.fits item.is
    (c.in_ok-sorts_of_action.ensures ∙ ap action_sorts item.is)
    (c.in_ok-constants.ensures ∙ ap (λ n. map Const (take n ground.args)) c.from.ensures)
    c.args.cond.now answer
    (same ∙ ap (λ causes. cond_back agent happened causes c.args.cond.now) c.as_slice.ensures))
