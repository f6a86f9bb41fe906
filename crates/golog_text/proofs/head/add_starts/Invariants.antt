use Rattle.std.proofs.Common.{◌≡◌, ◌++◌}
use Rattle.golog_text.proofs.HeadLines.{starts_from}
use Rattle.golog_text.proofs.head.add_starts.Given as goal

abbrev pub invariant-loop-fluent : goal.invariant-loop-fluent
invariant-loop-fluent l = l.text ++ starts_from l.agent l.values l.fluent ≡ l.initial.text ++ starts_from l.agent l.values 0
