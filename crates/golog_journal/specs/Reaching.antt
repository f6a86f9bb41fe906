-- How far the entries were gone through for the commands of each device.
use Rattle.std.specs.Prelude.{◌≡◌, ℕ, ◌-◌, ◌≤◌, ◌<◌, None, List, length, take, option_map, slice_get, slice_index_or}
use Rattle.golog_tree.specs.declared.agent.Agent.{Agent}
use Rattle.golog_semantics.specs.Journal.{Journal, Command, commands}
use Rattle.golog_journal.specs.declared.reached.Placed.{Placed}
use Rattle.golog_journal.specs.declared.reached.Reached.{Reached}

-- the command that is kept
abbrev pub command_of : Placed → Command
command_of placed = record { place = placed.place; action = placed.action }

-- no entry was looked at
abbrev pub at_start : Reached
at_start = record { place = 0; commands = 0; last = None }

-- among the entries before the place stand so many commands of the device, of which this is the last
pub record IsReached (agent : Agent) (journal : Journal) (device : ℕ) (reached : Reached) : Type 0 where
  pub within : reached.place ≤ length journal
  pub few : reached.commands ≤ reached.place
  pub number : reached.commands ≡ length (commands agent device (take reached.place journal))
  pub last :
      option_map command_of reached.last
      ≡ slice_get (commands agent device (take reached.place journal)) (reached.commands - 1)

-- so it is for each device of the agent
pub record AreReached (agent : Agent) (journal : Journal) (devices : List Reached) : Type 0 where
  pub one_each : length devices ≡ length agent.devices
  pub each : (device : ℕ) (d : Reached) → device < length devices
      → IsReached agent journal device (slice_index_or devices device d)
