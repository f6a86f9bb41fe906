use Rattle.std.proofs.Common.{◌≡◌, drop}
use Rattle.golog_replay.proofs.lines.Lines.pass.Given as goal

abbrev pub invariant-loop : goal.invariant-loop
invariant-loop l = l.self ≡ drop l.counter l.initial.self
