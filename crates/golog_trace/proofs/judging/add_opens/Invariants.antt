use Rattle.std.proofs.Common.{◌≡◌, ◌++◌}
use Rattle.golog_trace.specs.Judged.{open_line}
use Rattle.golog_trace.proofs.Said.{said_from}
use Rattle.golog_trace.proofs.judging.add_opens.Given as goal

abbrev pub invariant-loop-fluent : goal.invariant-loop-fluent
invariant-loop-fluent l =
    l.text ++ said_from (open_line l.agent l.cond) l.values l.fluent ≡ l.initial.text ++ said_from (open_line l.agent l.cond) l.values 0
