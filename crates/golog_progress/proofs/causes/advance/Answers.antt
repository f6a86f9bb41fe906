use Rattle.std.proofs.Common.{◌≡◌, ◌<◌, length, take, sym, ap, ◌∙◌, subst, arith, Some}
use Rattle.std.specs.Prelude.{slice_get}
use Rattle.golog_tree.specs.Ground.{ground_actions, ground_fluents}
use Rattle.golog_progress.specs.Effects.{AreRuled}
use Rattle.golog_progress.proofs.Ruled.{count-actions, few-args, ruled-all}
use Rattle.golog_progress.proofs.causes.advance.Goals as goal

pub action_of-ground-requires-clause-number : goal.action_of-ground-requires-clause-number
action_of-ground-requires-clause-number c = subst (λ n. c.args.action < n) (count-actions c.args.agent.now) c.requires.action

pub shared_ref_as_front-args : goal.shared_ref_as_front-args
shared_ref_as_front-args c =
    let few = few-args c.args.agent.now c.requires.agent c.action_of-ground.result.item c.action_of-ground.ensures.declared in
    rw c.from.ensures (rw c.action_of-ground.ensures.count few)

pub returns : goal.returns
returns c =
    let item = c.action_of-ground.result.item in
    let args = take c.from.result c.action_of-ground.result.args in
    let named : slice_get (ground_actions c.args.agent.now) c.args.action ≡ Some (item, args) =
    c.action_of-ground.ensures.named ∙ ap (λ n. Some (item, take n c.action_of-ground.result.args)) (sym c.from.ensures) in
    let whole : length c.rule.new.next ≡ length (ground_fluents c.args.agent.now) = omega arith in
    let r : AreRuled c.args.agent.now c.args.values.now c.args.agent.now.causes (item, args) c.args.values.now c.rule.new.next =
    subst (λ old. AreRuled c.args.agent.now c.args.values.now c.args.agent.now.causes (item, args) old c.rule.new.next) c.copy_from_slice.ensures.after
    (subst (λ causes. AreRuled c.args.agent.now c.args.values.now causes (item, args) c.copy_from_slice.new.self c.rule.new.next) c.as_slice.ensures c.rule.ensures) in
    ruled-all c.args.agent.now c.args.values.now item args c.args.action c.rule.new.next named whole r
