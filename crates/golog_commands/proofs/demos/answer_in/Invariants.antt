use Rattle.std.proofs.Common.{◌≡◌, false, take}
use Rattle.std.specs.List.{list_any}
use Rattle.golog_semantics.specs.Journal.{is_end}
use Rattle.golog_commands.proofs.demos.answer_in.Given as goal

abbrev pub invariant-loop-entry : goal.invariant-loop-entry
invariant-loop-entry l = list_any is_end (take l.entry-index l.report.entries) ≡ false
