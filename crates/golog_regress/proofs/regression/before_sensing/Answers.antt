use Rattle.std.proofs.Common.{◌≡◌, ◌<◌, ◌∷◌, [], length, map, take, ap, ◌∙◌, subst, true}
use Rattle.std.specs.Prelude.{nat_lt}
use Rattle.std.proofs.lemmas.Bool.{ltb-true}
use Rattle.golog_tree.specs.declared.cond.Arg.TheVariants.{Const}
use Rattle.golog_tree.specs.declared.cond.Term.TheVariants as term
use Rattle.golog_tree.specs.declared.cond.Cond.TheVariants as cond
use Rattle.golog_tree.specs.Ground.{ground_fluents, sort_size}
use Rattle.golog_semantics.specs.Values.{fluent_sort}
use Rattle.golog_semantics.proofs.Tests.{and_cases}
use Rattle.golog_regress.specs.declared.event.Event.TheVariants.{Sensed}
use Rattle.golog_regress.specs.Regressed.{cond_back}
use Rattle.golog_regress.specs.Regression.{IsRegressed}
use Rattle.golog_regress.proofs.Events.{if-so, over_result, count-fluents, few-fluent-args}
use Rattle.golog_regress.proofs.regression.before_sensing.Goals as goal

pub fluent_of-ground-requires-clause-number : goal.fluent_of-ground-requires-clause-number
fluent_of-ground-requires-clause-number c =
    let agent = c.args.agent.now in
    let k = and_cases (nat_lt c.args.fluent (length (ground_fluents agent))) (nat_lt c.args.value (sort_size agent (fluent_sort agent c.args.fluent))) c.requires.value in
    subst (λ n. c.args.fluent < n) (count-fluents agent) (ltb-true c.args.fluent (length (ground_fluents agent)) k.0)

pub shared_ref_as_front-constants : goal.shared_ref_as_front-constants
shared_ref_as_front-constants c =
    let few = few-fluent-args c.args.agent.now c.requires.agent c.fluent_of-ground.result.item c.fluent_of-ground.ensures.declared in
    rw c.from.ensures (rw c.fluent_of-ground.ensures.count few)

pub returns : goal.returns
returns c =
    let agent = c.args.agent.now in
    let ground = c.fluent_of-ground.result in
    let vals = take ground.count ground.args in
    let k = and_cases (nat_lt c.args.fluent (length (ground_fluents agent))) (nat_lt c.args.value (sort_size agent (fluent_sort agent c.args.fluent))) c.requires.value in
    let consts : c.in_ok-fluent_args.fluent_args ≡ map Const vals = c.in_ok-fluent_args.ensures ∙ ap (λ n. map Const (take n ground.args)) c.from.ensures in
    if-so (λ answer. IsRegressed agent (Sensed c.args.fluent c.args.value ∷ []) c.args.cond.now answer) _ c.cond_back-before.result c.cond_back-before.ensures
    (λ answer same.
    over_result agent c.requires.agent c.args.fluent ground.item c.args.value vals c.fluent_of-ground.ensures.named c.fluent_of-ground.ensures.fits
    (ltb-true c.args.value (sort_size agent (fluent_sort agent c.args.fluent)) k.1) (ltb-true c.args.fluent (length (ground_fluents agent)) k.0)
    c.args.cond.now answer
    (same ∙ ap (λ causes. cond_back agent (record { action = 0; sorts = c.new-2.result; args = c.new-3.result }) causes c.args.cond.now) c.from_ref.ensures.value
    ∙ (λ i. cond_back agent (record { action = 0; sorts = c.new-2.ensures i; args = c.new-3.ensures i })
    (record { action = 0; action_args = c.new.ensures i; fluent = ground.item; fluent_args = consts i; term = term.Arg (Const c.args.value); cond = cond.Truth true } ∷ [])
    c.args.cond.now)))
