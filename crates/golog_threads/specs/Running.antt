-- What a run over threads begins with.
use Rattle.std.specs.Prelude.{◌≡◌, ℕ, ◌<◌, ◌≤◌, true, false, Bool, List, slice_index_or}
use Rattle.golog_tree.specs.declared.agent.Agent.{Agent}
use Rattle.golog_semantics.specs.WellFormed.{WellFormed}
use Rattle.golog_semantics.specs.Journal.{Journal, device_limit, is_open}
use Rattle.golog_journal.specs.Boards.{AgentJournal, IsBoardList}
use Rattle.golog_journal.specs.Leading.{Mind, IsBehind}
use Rattle.golog_journal.specs.Taken.{IsReady}

-- each of the first devices, so many, that is open may have its first turn
abbrev pub AreReady : Agent → Journal → ℕ → Type 0
AreReady agent journal count =
    (device : ℕ) → device < count → is_open device journal ≡ true → IsReady agent journal device 0

-- A well-formed agent, its journal, a lead of it that is behind, so many devices of which these are open, and each open
-- one ready for its first turn.
pub record MayRun (agent : Agent) (journal : AgentJournal) (mind : Mind) (count : ℕ) (opens : List Bool) : Type 0 where
  pub formed : WellFormed agent
  pub of_agent : journal.agent ≡ agent
  pub leads : mind.agent ≡ agent
  pub few : count ≤ device_limit
  pub lawful : IsBoardList agent journal.entries
  pub told : (device : ℕ) → device < count → slice_index_or opens device false ≡ is_open device journal.entries
  pub ready : AreReady agent journal.entries count
  pub behind : IsBehind mind.list journal.entries

-- the same, closed to searches
unfoldable pub MayRunSealed : Agent → AgentJournal → Mind → ℕ → List Bool → Type 0
MayRunSealed agent journal mind count opens = MayRun agent journal mind count opens
