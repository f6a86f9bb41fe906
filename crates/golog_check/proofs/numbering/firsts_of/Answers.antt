use Rattle.std.proofs.Common.{◌++◌, ◌∷◌, [], ℕ, List, map, take, ap, sym, ◌∙◌, arith}
use Rattle.std.specs.List.{range_with_len}
use Rattle.std.proofs.lemmas.List.FromFn.{map-range_with_len_more}
use Rattle.golog_tree.specs.declared.agent.SortItem.{SortItem}
use Rattle.golog_tree.specs.Ground.{ground_count}
use Rattle.golog_tree.proofs.Items.{few-at, count-more}
use Rattle.golog_check.specs.Sums.{count_in}
use Rattle.golog_check.proofs.numbering.firsts_of.Goals as goal

pub count_in-count-requires-clause-few : goal.count_in-count-requires-clause-few
count_in-count-requires-clause-few g c =
    few-at c.args.agent.now g.T.HasArgs.arg_sorts c.args.items.now c.loop-item.item-index c.item-item.result _
    (record { below = c.loop-item-test.true; sorts_are = c.arg_sorts.ensures; is = c.item-item.is }) c.requires.few

pub loop-item-preserved : goal.loop-item-preserved
loop-item-preserved g c =
    let first : ℕ → ℕ = λ item. ground_count c.args.agent.now (take item (map g.T.HasArgs.arg_sorts c.args.items.now)) in
    let at = c.loop-item.item-index in (
      count-more c.args.agent.now g.T.HasArgs.arg_sorts c.args.items.now at c.item-item.result _
          (record { below = c.loop-item-test.true; sorts_are = c.arg_sorts.ensures; is = c.item-item.is })
          c.loop-item.count c.count_in-count.result c.loop-item.invariant.0
          (c.count_in-count.ensures.count ∙ ap (λ (sorts : List SortItem). count_in sorts c.arg_sorts.result.now) c.as_slice.ensures),
      c.in_ok-push.ensures.ok
          ∙ ap (λ firsts. firsts ++ c.loop-item.count ∷ []) c.loop-item.invariant.1
          ∙ ap (λ count. map first (range_with_len 0 at) ++ count ∷ []) c.loop-item.invariant.0
          ∙ sym (map-range_with_len_more first 0 at at (omega arith)),
    )
