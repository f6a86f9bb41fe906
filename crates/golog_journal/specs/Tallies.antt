-- What is counted for each device, so that what is told of it needs no way through the journal.
use Rattle.std.specs.Prelude.{◌≡◌, ℕ, ◌+◌, ◌-◌, ◌<◌, not, if◌then◌else◌, Option, Some, None, List, length, count_by, slice_index_or}
use Rattle.golog_tree.specs.declared.agent.Agent.{Agent}
use Rattle.golog_semantics.specs.declared.journal.Entry.{Entry}
use Rattle.golog_semantics.specs.declared.journal.Entry.TheVariants.{Do, Test, Sense, Rest, End}
use Rattle.golog_semantics.specs.Journal.{Journal, device_of, commands, outstanding_commands, entries_by, is_open, last_of, has_end, count}
use Rattle.golog_journal.specs.declared.standing.Standing.{Standing}
use Rattle.golog_journal.specs.Agents.{ServesDevices}
use Rattle.golog_journal.specs.Boards.{IsBoardList}

-- how many commands its device had taken at a Rest
abbrev pub rested_after : Option Entry → Option ℕ
rested_after (Some (Rest poster taken)) = Some taken
rested_after other = None

-- how many results are still to come of so many, after an entry of their device
abbrev pub outstanding_after : ℕ → Entry → ℕ
outstanding_after owed (Sense poster place fluent value) = owed - 1
outstanding_after owed other = owed

-- an entry of the program that is no command: an action without a device, a test or the end
abbrev pub IsStep : Agent → Entry → Type 0
IsStep agent (Do action) = device_of agent action ≡ None
IsStep agent Test = Unit {0}
IsStep agent (End answer) = Unit {0}
IsStep agent other = ⊥

module _ (agent : Agent) (journal : Journal) where
  -- how many commands the device has, and how many of their results are still to come; the number at its last entry
  -- if that is a Rest; and whether it is open
  pub record IsTally (device : ℕ) (standing : Standing) : Type 0 where
    pub has_commands : standing.commands ≡ length (commands agent device journal)
    pub has_outstanding : standing.outstanding ≡ length (outstanding_commands agent device journal)
    pub has_rested : standing.rested ≡ rested_after (last_of (entries_by device journal))
    pub has_open : standing.is_open ≡ is_open device journal

  -- how many devices are closed
  abbrev pub closed : List Standing → ℕ
  closed standings = count_by (λ standing. not standing.is_open) standings

  -- One tally for each device of the agent. The entries are those that are counted, a Close of each closed
  -- device, and the end.
  pub record AreTallies (standings : List Standing) : Type 0 where
    pub one_each : length standings ≡ length agent.devices
    pub each : (device : ℕ) (d : Standing) → device < length standings
        → IsTally device (slice_index_or standings device d)
    pub in_all : length journal ≡ count journal + closed standings + (if has_end journal then 1 else 0)

  -- what holds of a journal between two calls
  pub record IsCounted (standings : List Standing) : Type 0 where
    pub serves : ServesDevices agent
    pub lawful : IsBoardList agent journal
    pub tallied : AreTallies standings
