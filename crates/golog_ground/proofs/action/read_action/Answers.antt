use Rattle.std.proofs.Common.{◌≤◌, length, Some, None, sym, ap, ◌∙◌, subst}
use Rattle.std.specs.Prelude.{position, nat_eq}
use Rattle.std.specs.Cmp.Lexicographic.{pointwise}
use Rattle.golog_tree.specs.declared.agent.ActionItem.{ActionItem}
use Rattle.golog_ground.specs.Texts.{IsTheOne, WritesArgs}
use Rattle.golog_ground.proofs.Actions.{chosen, few-args, no-action, no-args, found, whole, within-read}
use Rattle.golog_ground.proofs.action.read_action.Goals as goal

pub returns-in_default : goal.returns-in_default
returns-in_default c =
    no-action c.args.agent.now c.requires c.args.bytes.now _ _ c.split_at_mark.ensures.front c.split_at_mark.ensures.back
    (sym c.in_default.is ∙ c.place_of_action.ensures ∙ ap (position (λ (x : ActionItem). pointwise nat_eq x.name _)) c.as_slice.ensures)

pub read_args-requires-clause-few : goal.read_args-requires-clause-few
read_args-requires-clause-few c =
    let at = chosen c.args.agent.now _ c.as_slice.result.now c.as_slice-2.result.now c.in-Some.item c.index-as_slice-item.result c.as_slice.ensures c.as_slice-2.ensures
    (sym c.in-Some.is ∙ c.place_of_action.ensures) c.index-as_slice-item.is in
    subst (λ xs. length xs ≤ 3) (sym (c.as_slice-sorts.ensures ∙ ap (λ (x : ActionItem). x.args) (sym c.index-as_slice-item.is))) (few-args c.args.agent.now c.requires.countable c.in-Some.item c.index-as_slice-item.result at.0)

pub returns-in_default-read_args : goal.returns-in_default-read_args
returns-in_default-read_args c =
    let at = chosen c.args.agent.now _ c.as_slice.result.now c.as_slice-2.result.now c.in-Some.item c.index-as_slice-item.result c.as_slice.ensures c.as_slice-2.ensures
    (sym c.in-Some.is ∙ c.place_of_action.ensures) c.index-as_slice-item.is in
    no-args c.args.agent.now c.requires c.args.bytes.now _ _ c.split_at_mark.ensures.front c.split_at_mark.ensures.back
    c.in-Some.item c.index-as_slice-item.result at.0 at.1
    (subst (λ xs. IsTheOne None (WritesArgs c.args.agent.now xs c.split_at_mark.result.1.now)) (c.as_slice-sorts.ensures ∙ ap (λ (x : ActionItem). x.args) (sym c.index-as_slice-item.is))
    (subst (λ r. IsTheOne r (WritesArgs c.args.agent.now c.as_slice-sorts.result.now c.split_at_mark.result.1.now)) c.in_default-read_args.is c.read_args.ensures))

pub action_no-requires-clause-fits : goal.action_no-requires-clause-fits
action_no-requires-clause-fits c =
    let at = chosen c.args.agent.now _ c.as_slice.result.now c.as_slice-2.result.now c.in-Some.item c.index-as_slice-item.result c.as_slice.ensures c.as_slice-2.ensures
    (sym c.in-Some.is ∙ c.place_of_action.ensures) c.index-as_slice-item.is in
    within-read c.args.agent.now c.in-Some.item c.index-as_slice-item.result c.as_slice-sorts.result.now c.in-Some-read_args.args c.as_slice-3.result.now _ at.0 (c.as_slice-sorts.ensures ∙ ap (λ (x : ActionItem). x.args) (sym c.index-as_slice-item.is)) c.as_slice-3.ensures
    c.in-Some-read_args.ensures

pub returns : goal.returns
returns c =
    let at = chosen c.args.agent.now _ c.as_slice.result.now c.as_slice-2.result.now c.in-Some.item c.index-as_slice-item.result c.as_slice.ensures c.as_slice-2.ensures
    (sym c.in-Some.is ∙ c.place_of_action.ensures) c.index-as_slice-item.is in
    found c.args.agent.now c.requires c.args.bytes.now _ _ c.split_at_mark.ensures.front c.split_at_mark.ensures.back
    c.in-Some.item c.index-as_slice-item.result at.0 at.1 c.action_no.result c.in-Some-read_args.args
    (subst (λ xs. IsTheOne (Some c.in-Some-read_args.args) (WritesArgs c.args.agent.now xs c.split_at_mark.result.1.now)) (c.as_slice-sorts.ensures ∙ ap (λ (x : ActionItem). x.args) (sym c.index-as_slice-item.is)) c.in-Some-read_args.ensures)
    (c.action_no.ensures.named ∙ ap (λ xs. Some (c.in-Some.item, xs)) c.as_slice-3.ensures) c.action_no.ensures.among
    (whole c.args.bytes.now _ _ c.split_at_mark.ensures.front c.split_at_mark.ensures.back)
