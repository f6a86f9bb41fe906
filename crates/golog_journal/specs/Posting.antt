-- What a device may post, and what is added and answered for it.
use Rattle.std.specs.Prelude.{◌≡◌, ℕ, IsTrue, Option, Some, None, [], ◌∷◌, length}
use Rattle.golog_tree.specs.declared.agent.Agent.{Agent}
use Rattle.golog_semantics.specs.declared.journal.Item.{Item}
use Rattle.golog_semantics.specs.declared.journal.Item.TheVariants.{Stop, Refused}
use Rattle.golog_semantics.specs.declared.journal.Reason.{Reason}
use Rattle.golog_semantics.specs.Journal.{Journal, commands, entries_by, has_end}
use Rattle.golog_semantics.specs.Posts.{closing, posted_entry}
use Rattle.golog_journal.specs.declared.board.Posted.{Posted}
use Rattle.golog_journal.specs.declared.board.Posted.TheVariants.{At, Closed}
use Rattle.golog_journal.specs.Taken.{IsDriven}

-- the place of the new entry, and why the device is closed, if it is
abbrev pub posted_at : ℕ → Option Reason → Posted
posted_at place None = At place
posted_at place (Some reason) = Closed place reason

module _ (agent : Agent) (journal : Journal) (device taken : ℕ) where
  -- a device is stopped after the end, with all its commands taken; it is refused before all else
  abbrev pub IsItsTime : Item → Type 0
  IsItsTime Stop = IsTrue (has_end journal) × (taken ≡ length (commands agent device journal))
  IsItsTime Refused = (taken ≡ 0) × (entries_by device journal ≡ []) × (commands agent device journal ≡ [])
  IsItsTime item = Unit {0}

  -- an open device may post, at the number of commands that it has taken
  pub record MayPost (item : Item) : Type 0 where
    pub driven : IsDriven agent journal device taken
    pub in_time : IsItsTime item

  -- the item's entry is added, or the Close in its place
  pub record PostIs (item : Item) (reply : Posted) (added : Journal) : Type 0 where
    pub one : added ≡ posted_entry agent journal device taken item ∷ []
    pub told : reply ≡ posted_at (length journal) (closing agent journal device taken item)
