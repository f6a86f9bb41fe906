use Rattle.std.proofs.Common.{◌≡◌, map, take, length}
use Rattle.golog_semantics.specs.Truth.{arg_value as value_of_arg}
use Rattle.golog_known.proofs.env.Env.arg_values.Given as goal

abbrev pub invariant-loop-i : goal.invariant-loop-i
invariant-loop-i l = record {
  room : length l.values ≡ 3;
  done : take l.i l.values ≡ map (value_of_arg l.self) (take l.i l.args);
}
