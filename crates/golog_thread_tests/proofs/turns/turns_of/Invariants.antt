use Rattle.std.proofs.Common.{◌≡◌}
use Rattle.golog_journal.specs.Taken.{IsReady}
use Rattle.golog_thread_tests.proofs.turns.turns_of.Given as goal

abbrev pub invariant-loop-place : goal.invariant-loop-place
invariant-loop-place g l = record {
  agent : l.journal.agent ≡ l.agent;
  ready : IsReady l.agent l.journal.entries 0 l.taken;
}
