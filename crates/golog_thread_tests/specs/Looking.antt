-- A lead that looks at a board and adds nothing.
use Rattle.std.specs.Prelude.{◌≡◌, false}
use Rattle.golog_semantics.specs.Journal.{Journal, has_end}
use Rattle.golog_journal.specs.Growing.{Sight}
use Rattle.golog_journal.specs.Leading.{IsBehind, Watches}

-- none of the program's entries was added: what was behind still is, and what goes on goes on
pub record Looks (old new : Sight) : Type 0 where
  pub watches : Watches old new
  pub behind : (list : Journal) → IsBehind list old.seen → IsBehind list new.seen
  pub goes_on : has_end old.seen ≡ false → has_end new.seen ≡ false
