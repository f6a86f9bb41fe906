use Rattle.std.proofs.Common.{◌≡◌, ◌+◌, ◌≤◌}
use Rattle.golog_journal.specs.Reaching.{IsReached}
use Rattle.golog_journal.proofs.reached.reached_from.Given as goal

abbrev pub invariant-loop-index : goal.invariant-loop-index
invariant-loop-index l = record {
  reached : IsReached l.facts l.entries l.device l.reached;
  most : l.reached.commands ≤ l.number + 1;
  place : l.reached.place ≡ l.index;
}
