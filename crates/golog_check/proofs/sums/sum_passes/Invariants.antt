use Rattle.std.proofs.Common.{◌≡◌, ◌≤◌, map, drop}
use Rattle.golog_check.specs.Sums.{sum_from}
use Rattle.golog_check.proofs.sums.sum_passes.Given as goal

abbrev pub invariant-loop-item : goal.invariant-loop-item
invariant-loop-item g l = record {
  same : (sum_from l.sorts l.limit 0 (map g.T.Counted.counted l.items)).outcome
      ≡ (sum_from l.sorts l.limit l.sum (map g.T.Counted.counted (drop l.item-index l.items))).outcome;
  within : l.sum ≤ l.limit;
}
