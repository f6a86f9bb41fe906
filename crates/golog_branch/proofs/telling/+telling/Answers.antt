use Rattle.std.proofs.Common.{◌≡◌, ◌<◌, ◌++◌, codes, drop, get_or, length, length-drop, length-take, map, true, List, OnOk, sym, ap, ◌∙◌, subst, append_assoc, arith, rules}
use Rattle.std.specs.List.{flat_map}
use Rattle.std.proofs.lemmas.Grind.{common_steps}
use Rattle.golog_semantics.specs.Text.{Text, label_text}
use Rattle.golog_known.proofs.Folds.{item_smaller}
use Rattle.golog_branch.specs.declared.tree.Branch.{Branch}
use Rattle.golog_branch.specs.declared.tree.Tree.{Tree}
use Rattle.golog_branch.specs.declared.tree.Tree.TheViews.{the_lemmas}
use Rattle.golog_branch.specs.Trees.{sensed_by_label}
use Rattle.golog_branch.specs.TreeTexts.{are_told, branch_text, branch_told, is_sensed, is_told, next_text, sensed_text, tree_text}
use Rattle.golog_branch.proofs.tree.Branch.TheLaws.{the_size}
use Rattle.golog_branch.proofs.Told.{first-sensed, first-told, later-case, later-sensed, later-smaller, later-told, one-case, regroup, step-told, text-alone, text-cases, text-done, text-none, text-of-step}
use Rattle.golog_branch.proofs.telling.+telling.Goals as goal

pub add_tree-returns-in-Done : goal.add_tree-returns-in-Done
add_tree-returns-in-Done t c =
    let agent = c.args.planner.now.agent.now in
    subst (λ (x : Text). OnOk c.extend.result (c.extend.new.self ≡ c.args.text.now ++ x))
    (sym (ap (tree_text agent) c.in-Done.is ∙ text-done agent)) c.extend.ensures.added

pub add_tree-add_label-requires-clause-countable : goal.add_tree-add_label-requires-clause-countable
add_tree-add_label-requires-clause-countable t c = c.requires.agent.countable

pub add_tree-add_label-requires-clause-label : goal.add_tree-add_label-requires-clause-label
add_tree-add_label-requires-clause-label t c =
    (step-told c.args.planner.now.agent.now c.args.tree.now c.in-Step.label c.in-Step.left c.in-Step.next c.in-Step.is c.requires.told).0

pub add_tree-add_next-requires : goal.add_tree-add_next-requires
add_tree-add_next-requires t c =
    let agent = c.args.planner.now.agent.now in
    let sensed = sensed_by_label agent c.in-Step.label in
    let told : are_told agent sensed (map (branch_told agent) c.as_slice.result.now) ≡ true =
    subst (λ (next : List Branch). are_told agent sensed (map (branch_told agent) next) ≡ true) (sym c.as_slice.ensures)
    (step-told agent c.args.tree.now c.in-Step.label c.in-Step.left c.in-Step.next c.in-Step.is c.requires.told).1 in
    (first_of (search (rules, the_lemmas), grind (arith, common_steps, the_lemmas)), (c.requires.agent, (c.requires.facts, told)))

pub add_tree-returns-in_ok-add_label-in-Step : goal.add_tree-returns-in_ok-add_label-in-Step
add_tree-returns-in_ok-add_label-in-Step t c =
    let agent = c.args.planner.now.agent.now in
    let label = c.in-Step.label in
    let old = c.args.text.now in
    let texts = λ (next : List Branch). next_text agent (sensed_by_label agent label) (map (branch_text agent) next) in
    subst (λ (x : Text). OnOk c.add_next.result (c.add_next.new.text ≡ x))
    (ap (λ (x : Text). x ++ texts c.as_slice.result.now) c.in_ok-add_label-in-Step.ensures
    ∙ append_assoc old (label_text agent label) (texts c.as_slice.result.now)
    ∙ ap (λ (next : List Branch). old ++ (label_text agent label ++ texts next)) c.as_slice.ensures
    ∙ ap (λ (x : Text). old ++ x) (sym (ap (tree_text agent) c.in-Step.is ∙ text-of-step agent label c.in-Step.left c.in-Step.next)))
    c.add_next.ensures

pub add_next-returns-in_default : goal.add_next-returns-in_default
add_next-returns-in_default t c =
    let agent = c.args.planner.now.agent.now in
    subst (λ (x : Text). OnOk c.extend.result (c.extend.new.self ≡ c.args.text.now ++ x))
    (text-none agent (sensed_by_label agent c.args.label) c.args.next.now (omega arith)) c.extend.ensures.added

pub add_next-returns-then-is_unsensed : goal.add_next-returns-then-is_unsensed
add_next-returns-then-is_unsensed t c =
    let agent = c.args.planner.now.agent.now in
    let old = c.args.text.now in
    subst (λ (x : Text). OnOk c.add_tree.result (c.add_tree.new.text ≡ x))
    (ap (λ (x : Text). x ++ tree_text agent c.get.result.now) c.in_ok-extend.ensures.added
    ∙ append_assoc old (codes "; ") (tree_text agent c.get.result.now)
    ∙ ap (λ (x : Tree). old ++ (codes "; " ++ tree_text agent x)) c.get.ensures
    ∙ ap (λ (x : Text). old ++ x)
    (text-alone agent (sensed_by_label agent c.args.label) c.args.next.now c.first-item.result c.first-item.is (sym c.is_unsensed.ensures ∙ c.if-is_unsensed.true)))
    c.add_tree.ensures

pub add_next-add_case-requires : goal.add_next-add_case-requires
add_next-add_case-requires t c =
    let agent = c.args.planner.now.agent.now in
    let sensed = sensed_by_label agent c.args.label in
    let first = c.first-item.result in
    let value : is_sensed agent sensed first.value ≡ true =
    first-sensed agent sensed c.args.next.now c.requires.told (sym c.is_unsensed.ensures ∙ c.if-is_unsensed.false) first (omega arith) c.first-item.is in
    let told : is_told agent first.tree ≡ true = first-told agent sensed c.args.next.now c.requires.told first (omega arith) c.first-item.is in
    let smaller = item_smaller the_size c.args.next.now 0 first c.first-item.is (omega arith) in
    (first_of (search (rules, the_lemmas), grind (arith, common_steps, the_lemmas)), (c.requires.agent, (c.requires.facts, (value, told))))

pub add_next-add_case-requires-in-loop-other : goal.add_next-add_case-requires-in-loop-other
add_next-add_case-requires-in-loop-other t c =
    let agent = c.args.planner.now.agent.now in
    let sensed = sensed_by_label agent c.args.label in
    let next = c.args.next.now in
    let other = c.other-item.result in
    let i = c.loop-other.other-index in
    let within : i < length (drop 1 next) = omega (arith, length-drop {A = Branch}, length-take {A = Branch}) in
    let is : other ≡ get_or (drop 1 next) i other = first_of (search rules, grind (arith, common_steps)) in
    let value : is_sensed agent sensed other.value ≡ true = later-sensed agent sensed next c.requires.told (sym c.is_unsensed.ensures ∙ c.if-is_unsensed.false) i other within is in
    let told : is_told agent other.tree ≡ true = later-told agent sensed next c.requires.told i other within is in
    let smaller = later-smaller the_size next i other is within in
    (first_of (search (rules, the_lemmas), grind (arith, common_steps, the_lemmas)), (c.requires.agent, (c.requires.facts, (value, told))))

pub add_next-returns : goal.add_next-returns
add_next-returns t c =
    let agent = c.args.planner.now.agent.now in
    let sensed = sensed_by_label agent c.args.label in
    let next = c.args.next.now in
    let first = c.first-item.result in
    let old = c.args.text.now in
    let more = flat_map (later-case agent sensed) (drop 1 next) in
    let case = one-case agent sensed first in
    let whole : c.loop-other.text ≡ c.add_case.new.text ++ more = grind (arith, common_steps) in
    subst (λ (x : Text). OnOk c.push-2.result (c.push-2.new.self ≡ x))
    (ap (λ (x : Text). x ++ codes "}") (whole ∙ ap (λ (x : Text). x ++ more) (c.in_ok-add_case.ensures ∙ ap (λ (x : Text). x ++ case) c.in_ok-push.ensures.ok))
    ∙ regroup old (codes "{") case more (codes "}")
    ∙ ap (λ (x : Text). old ++ x)
    (text-cases agent sensed next first (omega arith) c.first-item.is (sym c.is_unsensed.ensures ∙ c.if-is_unsensed.false)))
    c.push-2.ensures.ok

pub add_case-returns : goal.add_case-returns
add_case-returns t c =
    let agent = c.args.planner.now.agent.now in
    let old = c.args.text.now in
    let value = sensed_text agent (sensed_by_label agent c.args.label) c.args.branch.now.value in
    let tree = tree_text agent c.get.result.now in
    subst (λ (x : Text). OnOk c.add_tree.result (c.add_tree.new.text ≡ x))
    (ap (λ (x : Text). x ++ tree) (c.in_ok-extend.ensures.added ∙ ap (λ (x : Text). x ++ codes ": ") c.in_ok-add_sensed.ensures ∙ append_assoc old value (codes ": "))
    ∙ append_assoc old (value ++ codes ": ") tree
    ∙ ap (λ (x : Tree). old ++ ((value ++ codes ": ") ++ tree_text agent x)) c.get.ensures)
    c.add_tree.ensures
