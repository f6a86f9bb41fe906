use Rattle.std.proofs.Common.{◌≡◌, ◌++◌}
use Rattle.golog_trace.specs.Changes.{change_line}
use Rattle.golog_trace.proofs.Said.{said_from}
use Rattle.golog_trace.proofs.changes.Happening.add_changes.Given as goal

abbrev pub invariant-loop-fluent : goal.invariant-loop-fluent
invariant-loop-fluent l =
    l.text ++ said_from (change_line l.self.agent.now l.self.before.now l.self.entry) l.after l.fluent
    ≡ l.initial.text ++ said_from (change_line l.self.agent.now l.self.before.now l.self.entry) l.after 0
