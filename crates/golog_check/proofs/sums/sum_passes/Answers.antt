use Rattle.golog_check.proofs.SumLaws.{few-at}
use Rattle.golog_check.proofs.sums.sum_passes.Goals as goal

pub count_in-sum-requires-clause-few : goal.count_in-sum-requires-clause-few
count_in-sum-requires-clause-few g c =
    few-at g.T.Counted.counted c.args.items.now c.loop-item.item-index c.item-item.result _ c.loop-item-test.true
    c.item-item.is c.arg_sorts.ensures c.requires.few
