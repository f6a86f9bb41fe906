-- States whose values stand in one list, and their hashes.
use Rattle.std.specs.Prelude.{ℕ, ◌-◌, ◌≤◌, List, drop, fold, map, take}
use Rattle.std.specs.Hash.{u64 as number_input}
use Rattle.std.specs.Hash.FoldHasher.{finish, initial, write}
use Rattle.golog_semantics.specs.Truth.{Values}
use Rattle.golog_find.specs.declared.numbered.Numbered.{Numbered}
use Rattle.golog_find.specs.declared.states.NumberedRef.{NumberedRef}
use Rattle.golog_find.specs.declared.states.Row.{Row}

-- the values of the row stand inside so many
pub record IsWithin (count : ℕ) (row : Row) : Type 0 where
  pub ordered : row.start ≤ row.end
  pub inside : row.end ≤ count

-- the state of a row
abbrev pub row_state : List ℕ → Row → Numbered
row_state values row = record {
  label = row.label;
  left = row.left;
  state = take (row.end - row.start) (drop row.start values);
  from = row.from;
}

-- the states of rows
abbrev pub row_states : List ℕ → List Row → List Numbered
row_states values rows = map (row_state values) rows

-- the state whose values are lent
abbrev pub lent : NumberedRef → Numbered
lent n = record { label = n.label; left = n.left; state = n.values.now; from = n.from }

-- the hash of a program's number and values
unfoldable pub state_hash : ℕ → Values → ℕ
state_hash left values = finish (write (fold write initial (number_input left)) values)
