use Rattle.std.proofs.Common.{◌<◌, take, ap, ◌∙◌, sym, subst}
use Rattle.std.proofs.lemmas.List.{length-map}
use Rattle.golog_semantics.proofs.SortsStay.{has_at}
use Rattle.golog_progress.proofs.Ruled.{count-actions}
use Rattle.golog_regress.specs.Touched.{is_touched}
use Rattle.golog_regress.proofs.Untouched.{untouched-action}
use Rattle.golog_regress.proofs.touched.is_touched_by_action.Goals as goal

pub action_of-ground-requires-clause-number : goal.action_of-ground-requires-clause-number
action_of-ground-requires-clause-number c = subst (λ n. c.args.action < n) (count-actions c.args.agent.now) c.requires.action

pub returns-clause-stays : goal.returns-clause-stays
returns-clause-stays c = λ none.
    let agent = c.args.agent.now in
    let ground = c.action_of-ground.result in
    let item = has_at agent.actions ground.item (subst (λ n. ground.item < n) (length-map agent.actions (λ i. i.args)) c.action_of-ground.ensures.declared) in
    untouched-action agent c.requires.agent c.args.action ground.item item.item (take ground.count ground.args) c.action_of-ground.ensures.named c.action_of-ground.ensures.fits item.is c.args.cond.now
    (sym (ap (λ causes. is_touched causes ground.item c.args.cond.now) c.as_slice.ensures) ∙ sym c.is_touched.ensures ∙ none)
