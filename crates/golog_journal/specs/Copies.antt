-- Copies of a journal's entries.
use Rattle.std.specs.Prelude.{◌≡◌, ℕ, ◌-◌, min, Bool, nat_lt, [], length, take, drop}
use Rattle.golog_semantics.specs.Journal.{Journal}
use Rattle.golog_journal.specs.declared.board.Batch.{Batch}

-- the entries from this place on, at most 64 of them, and the length of the journal
pub record CopyIs (journal : Journal) (since : ℕ) (batch : Batch) (added : Journal) : Type 0 where
  pub none : added ≡ []
  pub count : batch.count ≡ min 64 (length journal - since)
  pub entries : take batch.count batch.entries ≡ take batch.count (drop since journal)
  pub length : batch.length ≡ length journal

-- whether entries stand from this place on
pub record MoreIs (journal : Journal) (since : ℕ) (more : Bool) (added : Journal) : Type 0 where
  pub none : added ≡ []
  pub answer : more ≡ nat_lt since (length journal)
