use Rattle.std.proofs.Common.{◌≡◌, ◌≤◌, drop}
use Rattle.golog_base.specs.Numbers.{amount, amount_on}
use Rattle.golog_base.proofs.numbers.amount_within.Given as goal

abbrev pub invariant-loop-byte : goal.invariant-loop-byte
invariant-loop-byte l = record {
  fits : l.amount ≤ l.most;
  same : amount_on l.amount (drop l.byte-index l.digits) ≡ amount l.digits;
}
