use Rattle.std.proofs.Common.{All, IsUtf8}
use Rattle.golog_script.proofs.Gathered.{Gathers}
use Rattle.golog_script.proofs.strings.strings_of.Given as goal

abbrev pub invariant-loop-item : goal.invariant-loop-item
invariant-loop-item l = record { gathers : Gathers l.items l.item-index l.strings; texts : All IsUtf8 l.strings }
