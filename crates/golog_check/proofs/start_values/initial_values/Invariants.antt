use Rattle.std.proofs.Common.{◌≡◌, ℕ, length, take, Some}
use Rattle.std.specs.Prelude.{slice_index, slice_get}
use Rattle.golog_tree.specs.Ground.{ground_fluents}
use Rattle.golog_semantics.specs.Truth.{unknown}
use Rattle.golog_check.specs.Starts.{Ground, own_value, one_value}
use Rattle.golog_check.proofs.start_values.initial_values.Given as goal

abbrev pub invariant-loop-start : goal.invariant-loop-start
invariant-loop-start l = record {
  values : (number : ℕ) (at : Ground) → slice_get (ground_fluents l.agent) number ≡ Some at
      → slice_index l.values.items number ≡ one_value (own_value unknown l.starts at.0) (take l.start-index l.starts) at;
  all : length l.values.items ≡ length (ground_fluents l.agent);
}
