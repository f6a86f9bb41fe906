use Rattle.std.proofs.Common.{◌≡◌, length}
use Rattle.golog_thread_tests.specs.EmptyScripts.{AreEmpty}
use Rattle.golog_thread_tests.proofs.begins.texts_of.Given as goal

abbrev pub invariant-loop-name : goal.invariant-loop-name
invariant-loop-name l = record { many : length l.texts ≡ l.name-index; empty : AreEmpty l.texts }
