use Rattle.std.proofs.Common.{◌≡◌, ◌+◌, ◌++◌, length, take}
use Rattle.golog_progress.proofs.causes.head_of.Given as goal

abbrev pub invariant-loop-i : goal.invariant-loop-i
invariant-loop-i l = record {
  room : length l.head ≡ 6;
  done : take l.i l.head ≡ take l.i l.cause.action_args;
}

abbrev pub invariant-loop-j : goal.invariant-loop-j
invariant-loop-j l = record {
  room : length l.head ≡ 6;
  done : take (l.first + l.j) l.head ≡ l.cause.action_args ++ take l.j l.cause.fluent_args;
}
