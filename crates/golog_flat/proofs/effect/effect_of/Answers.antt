use Rattle.std.proofs.Common.{◌≡◌, ◌<◌, true, false, sym, ap, ◌∙◌, subst}
use Rattle.golog_tree.specs.Numbered.{args}
use Rattle.golog_flat.specs.Effects.{are_plain, is_plain_action}
use Rattle.golog_flat.proofs.Agreeing.{count-actions, effect-is}
use Rattle.golog_flat.proofs.effect.effect_of.Goals as goal

pub action_of-ground-requires-clause-number : goal.action_of-ground-requires-clause-number
action_of-ground-requires-clause-number c = subst (λ n. c.args.action < n) (count-actions c.args.agent.now) c.requires.action

pub returns-in_ok-writes : goal.returns-in_ok-writes
returns-in_ok-writes c =
    let ground = c.action_of-ground.result in
    let plain : are_plain c.args.agent.now.causes ground.item ≡ true = sym (c.are_plain.ensures ∙ ap (λ cs. are_plain cs ground.item) c.as_slice.ensures) ∙ c.if-are_plain.true in
    effect-is c.args.agent.now (ground.item, args ground) plain c.args.action c.action_of-ground.ensures.named (record { writes = c.in_ok-writes.writes }) c.in_ok-writes.ensures

pub returns-else-are_plain : goal.returns-else-are_plain
returns-else-are_plain c =
    let ground = c.action_of-ground.result in
    ap (is_plain_action c.args.agent.now) c.action_of-ground.ensures.named
    ∙ sym (c.are_plain.ensures ∙ ap (λ cs. are_plain cs ground.item) c.as_slice.ensures) ∙ c.if-are_plain.false
