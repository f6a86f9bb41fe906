use Rattle.std.proofs.Common.{◌≡◌, length}
use Rattle.golog_journal.specs.Facts.{AreFacts}
use Rattle.golog_journal.proofs.table.action_facts.Given as goal

abbrev pub invariant-loop-number : goal.invariant-loop-number
invariant-loop-number l = AreFacts l.agent l.facts.items × (length l.facts.items ≡ l.number)
