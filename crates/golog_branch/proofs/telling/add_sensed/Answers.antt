use Rattle.std.proofs.Common.{◌≡◌, ◌<◌, ◌++◌, OnOk, sym, ap, ◌∙◌, subst, arith}
use Rattle.std.proofs.lemmas.Bool.{ltb-true}
use Rattle.std.proofs.lemmas.List.{append-nil}
use Rattle.golog_tree.specs.Ground.{fluent_args, sort_size}
use Rattle.golog_tree.proofs.Numbers.{length-all_from}
use Rattle.golog_semantics.specs.Text.{Text, constant_text}
use Rattle.golog_semantics.specs.Values.{fluent_sort}
use Rattle.golog_branch.specs.TreeTexts.{is_sensed, sensed_text}
use Rattle.golog_branch.proofs.CasesKeep.{sensed-fluent}
use Rattle.golog_branch.proofs.telling.add_sensed.Goals as goal

pub fluent_sort-sort-requires-clause-countable : goal.fluent_sort-sort-requires-clause-countable
fluent_sort-sort-requires-clause-countable c = c.requires.agent.countable

pub fluent_sort-sort-requires-clause-number : goal.fluent_sort-sort-requires-clause-number
fluent_sort-sort-requires-clause-number c =
    let agent = c.args.planner.now.agent.now in
    let inside = sensed-fluent agent c.requires.agent c.args.label c.in-Some.fluent (sym c.in-Some.ensures) in
    let count = length-all_from agent (fluent_args agent) 0 in
    omega arith

pub constant_text-requires : goal.constant_text-requires
constant_text-requires c =
    let agent = c.args.planner.now.agent.now in
    let value = c.args.value in
    let sensed = ap (λ o. is_sensed agent o value) c.in-Some.ensures ∙ c.requires.value in
    record { within = subst (λ s. value < sort_size agent s) (sym c.fluent_sort-sort.ensures) (ltb-true value (sort_size agent (fluent_sort agent c.in-Some.fluent)) sensed) }

pub returns-in_default : goal.returns-in_default
returns-in_default c =
    let agent = c.args.planner.now.agent.now in
    let text = c.args.text.now in
    sym (ap (λ o. text ++ sensed_text agent o c.args.value) (sym c.in_default.ensures) ∙ append-nil text)

pub returns : goal.returns
returns c =
    let agent = c.args.planner.now.agent.now in
    let value = c.args.value in
    subst (λ (t : Text). OnOk c.extend.result (c.extend.new.self ≡ c.args.text.now ++ t))
    (c.as_bytes.ensures.same ∙ c.constant_text.ensures ∙ ap (λ s. constant_text agent s value) c.fluent_sort-sort.ensures
    ∙ ap (λ o. sensed_text agent o value) c.in-Some.ensures)
    c.extend.ensures.added
