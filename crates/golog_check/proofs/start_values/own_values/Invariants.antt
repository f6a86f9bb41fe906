use Rattle.std.proofs.Common.{◌≡◌, ℕ, ◌<◌, length, take}
use Rattle.std.specs.Prelude.{slice_index}
use Rattle.golog_semantics.specs.Truth.{unknown}
use Rattle.golog_check.specs.Starts.{own_value}
use Rattle.golog_check.proofs.start_values.own_values.Given as goal

abbrev pub invariant-loop-start : goal.invariant-loop-start
invariant-loop-start l = record {
  values : (fluent : ℕ) → fluent < l.fn.fluents
      → slice_index l.own.items fluent ≡ own_value unknown (take l.start-index l.starts) fluent;
  all : length l.own.items ≡ l.fn.fluents;
}
