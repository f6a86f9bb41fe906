use Rattle.std.proofs.Common.{◌≡◌, ◌<◌, ℕ, List, length, take, get_or, sym, ap, subst, ◌∙◌, arith}
use Rattle.std.proofs.lemmas.List.{take_all, length-map}
use Rattle.golog_tree.specs.declared.agent.FluentItem.{FluentItem}
use Rattle.golog_tree.specs.declared.agent.SortItem.{SortItem}
use Rattle.golog_tree.specs.Ground.{fluent_args, ground_count}
use Rattle.golog_tree.proofs.Items.{few-at, count-more}
use Rattle.golog_check.specs.Sums.{count_in}
use Rattle.golog_check.proofs.StartLaws.{as-counted}
use Rattle.golog_check.proofs.start_values.ground_count.Goals as goal

pub count_in-count-requires-clause-few : goal.count_in-count-requires-clause-few
count_in-count-requires-clause-few c =
    let e = c.as_slice-item-items.ensures in
    few-at c.args.agent.now (λ (item : FluentItem). item.args) c.args.agent.now.fluents c.loop-item.item-index c.item-item.result
    c.as_slice-in-loop-item.result.now
    (record {
      below = subst (λ (xs : List FluentItem). c.loop-item.item-index < length xs) e c.loop-item-test.true;
      sorts_are = c.as_slice-in-loop-item.ensures;
      is = c.item-item.is ∙ ap (λ (xs : List FluentItem). get_or xs c.loop-item.item-index c.item-item.result) e;
    })
    c.requires.fluent_arities

pub loop-item-preserved : goal.loop-item-preserved
loop-item-preserved c =
    let e = c.as_slice-item-items.ensures in
    count-more c.args.agent.now (λ (item : FluentItem). item.args) c.args.agent.now.fluents c.loop-item.item-index c.item-item.result
    c.as_slice-in-loop-item.result.now
    (record {
      below = subst (λ (xs : List FluentItem). c.loop-item.item-index < length xs) e c.loop-item-test.true;
      sorts_are = c.as_slice-in-loop-item.ensures;
      is = c.item-item.is ∙ ap (λ (xs : List FluentItem). get_or xs c.loop-item.item-index c.item-item.result) e;
    })
    c.loop-item.count c.count_in-count.result c.loop-item.invariant
    (c.count_in-count.ensures.count ∙ ap (λ (sorts : List SortItem). count_in sorts c.as_slice-in-loop-item.result.now) c.as_slice.ensures)

pub returns : goal.returns
returns c =
    let e = ap (λ (xs : List FluentItem). length xs) c.as_slice-item-items.ensures in
    let l = length-map c.args.agent.now.fluents (λ (item : FluentItem). item.args) in
    let whole : take c.loop-item.item-index (fluent_args c.args.agent.now) ≡ fluent_args c.args.agent.now =
    take_all c.loop-item.item-index (fluent_args c.args.agent.now) (omega (arith, e, l, c.loop-item-test.false)) in
    c.loop-item.invariant ∙ ap (λ (items : List (List ℕ)). ground_count c.args.agent.now items) whole
    ∙ sym (as-counted c.args.agent.now)
