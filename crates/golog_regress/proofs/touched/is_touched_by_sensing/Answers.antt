use Rattle.std.proofs.Common.{◌<◌, take, ◌∙◌, sym, subst, length}
use Rattle.std.specs.Prelude.{nat_lt}
use Rattle.std.proofs.lemmas.Bool.{ltb-true}
use Rattle.golog_tree.specs.Ground.{ground_fluents, sort_size}
use Rattle.golog_semantics.specs.Values.{fluent_sort}
use Rattle.golog_semantics.proofs.Tests.{and_cases}
use Rattle.golog_regress.proofs.Events.{count-fluents}
use Rattle.golog_regress.proofs.Untouched.{untouched-result}
use Rattle.golog_regress.proofs.touched.is_touched_by_sensing.Goals as goal

pub fluent_of-ground-requires-clause-number : goal.fluent_of-ground-requires-clause-number
fluent_of-ground-requires-clause-number c =
    let agent = c.args.agent.now in
    let k = and_cases (nat_lt c.args.fluent (length (ground_fluents agent))) (nat_lt c.args.value (sort_size agent (fluent_sort agent c.args.fluent))) c.requires.value in
    subst (λ n. c.args.fluent < n) (count-fluents agent) (ltb-true c.args.fluent (length (ground_fluents agent)) k.0)

pub returns-clause-stays : goal.returns-clause-stays
returns-clause-stays c = λ none.
    let agent = c.args.agent.now in
    let ground = c.fluent_of-ground.result in
    let k = and_cases (nat_lt c.args.fluent (length (ground_fluents agent))) (nat_lt c.args.value (sort_size agent (fluent_sort agent c.args.fluent))) c.requires.value in
    untouched-result agent c.requires.agent c.args.fluent ground.item c.args.value (take ground.count ground.args) c.fluent_of-ground.ensures.named c.fluent_of-ground.ensures.fits
    (ltb-true c.args.value (sort_size agent (fluent_sort agent c.args.fluent)) k.1) (ltb-true c.args.fluent (length (ground_fluents agent)) k.0)
    c.args.cond.now (sym c.reads.ensures ∙ none)
