-- The next command of a device.
use Rattle.std.specs.Prelude.{◌≡◌, ℕ, Bool, false, if◌then◌else◌, Option, Some, None, [], slice_get}
use Rattle.std.specs.Option.{option_map_or}
use Rattle.golog_tree.specs.declared.agent.Agent.{Agent}
use Rattle.golog_semantics.specs.Journal.{Journal, Command, commands, is_sensing, entries_by, has_end, last_of, is_rest_after}
use Rattle.golog_journal.specs.declared.board.Next.{Next}
use Rattle.golog_journal.specs.declared.board.Next.TheVariants as next

module _ (agent : Agent) (journal : Journal) (device taken : ℕ) where
  -- the last entry of the device is a Rest with so many commands taken
  abbrev pub is_resting : Bool
  is_resting = option_map_or (is_rest_after taken) (last_of (entries_by device journal)) false

  -- without a command the device has nothing to do, or stops after the end
  abbrev pub next_by : Option Command → Next
  next_by (Some c) = next.Command c.place c.action (is_sensing agent c.action)
  next_by None = if has_end journal then next.Ended else next.Nothing is_resting

  -- the next of the device's commands after those taken, where there is one
  abbrev pub next_of : Next
  next_of = next_by (slice_get (commands agent device journal) taken)

  -- it is told, and nothing is added
  pub record NextIs (reply : Next) (added : Journal) : Type 0 where
    pub none : added ≡ []
    pub told : reply ≡ next_of
