-- Which entries' results stand.
use Rattle.std.specs.Prelude.{◌≡◌, ℕ, false, Bool, List, length, slice_index_or}
use Rattle.std.specs.List.{list_any}
use Rattle.golog_semantics.specs.Journal.{Journal, is_result_of}

-- one test for each entry: whether its result stands. Past the entries no result stands.
pub record AreAnswered (journal : Journal) (answered : List Bool) : Type 0 where
  pub one_each : length answered ≡ length journal
  pub each : (place : ℕ) → slice_index_or answered place false ≡ list_any (is_result_of place) journal
