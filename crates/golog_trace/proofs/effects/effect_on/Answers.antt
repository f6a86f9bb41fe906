use Rattle.std.proofs.Common.{◌≡◌, ◌≤◌, Some, take, refl, sym, ap, ◌∙◌, subst}
use Rattle.std.specs.Prelude.{option_and_then, slice_get}
use Rattle.golog_tree.specs.Ground.{AreWithin, action_args, args_at, fluent_args, ground_actions, ground_fluents, sizes}
use Rattle.golog_trace.specs.Effects.{effect_on, first_effect}
use Rattle.golog_trace.proofs.Matched.{by-numbers, if-ok-more}
use Rattle.golog_trace.proofs.Read.{few-at, few-action-at}
use Rattle.golog_trace.proofs.effects.effect_on.Goals as goal

pub shared_ref_as_front-args : goal.shared_ref_as_front-args
shared_ref_as_front-args c =
    subst (λ n. n ≤ 3) (sym c.from.ensures) (few-action-at c.args.agent.now c.args.action c.action_of-doing.result c.requires.formed.countable c.action_of-doing.ensures)

pub shared_ref_as_front-at : goal.shared_ref_as_front-at
shared_ref_as_front-at c =
    subst (λ n. n ≤ 3) (sym c.from-2.ensures) (few-at c.args.agent.now c.args.fluent c.fluent_of-reading.result c.requires.formed.countable c.fluent_of-reading.ensures)

pub first-requires-clause-args : goal.first-requires-clause-args
first-requires-clause-args c =
    let doing = c.action_of-doing.result in
    let agent = c.args.agent.now in
    subst (λ n. AreWithin (sizes agent (args_at (action_args agent) doing.item)) (take n doing.args)) (sym c.from.ensures) c.action_of-doing.ensures.fits

pub first-requires-clause-at : goal.first-requires-clause-at
first-requires-clause-at c =
    let reading = c.fluent_of-reading.result in
    let agent = c.args.agent.now in
    subst (λ n. AreWithin (sizes agent (args_at (fluent_args agent) reading.item)) (take n reading.args)) (sym c.from-2.ensures) c.fluent_of-reading.ensures.fits

pub returns : goal.returns
returns c =
    let agent = c.args.agent.now in
    let values = c.args.values.now in
    let doing = c.action_of-doing.result in
    let reading = c.fluent_of-reading.result in
    if-ok-more (λ e. e ≡ first_effect agent values 0 agent.causes (doing.item, take c.from.result doing.args) (reading.item, take c.from-2.result reading.args))
    (λ e. e ≡ effect_on agent values c.args.action c.args.fluent) c.first.result
    (λ e h.
    h
    ∙ ap (λ n. first_effect agent values 0 agent.causes (doing.item, take n doing.args) (reading.item, take c.from-2.result reading.args)) c.from.ensures
    ∙ ap (λ n. first_effect agent values 0 agent.causes (doing.item, take doing.count doing.args) (reading.item, take n reading.args)) c.from-2.ensures
    ∙ sym (by-numbers agent values c.args.action c.args.fluent (doing.item, take doing.count doing.args) (reading.item, take reading.count reading.args) c.action_of-doing.ensures.named c.fluent_of-reading.ensures.named))
    c.first.ensures
