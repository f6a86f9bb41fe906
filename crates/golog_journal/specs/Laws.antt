-- Laws of boards' lists, whoever adds the entries.
use Rattle.std.specs.Prelude.{◌≡◌, ℕ, false, IsTrue, ◌++◌}
use Rattle.std.specs.List.{list_any}
use Rattle.golog_tree.specs.declared.agent.Agent.{Agent}
use Rattle.golog_semantics.specs.Journal.{Journal, is_posted_by}
use Rattle.golog_semantics.specs.WellFormed.{WellFormed}
use Rattle.golog_journal.specs.Agents.{ServesDevices}
use Rattle.golog_journal.specs.Boards.{IsBoardList}
use Rattle.golog_journal.specs.Taken.{fits, IsDriven, IsReady}

-- none of the entries is of the device
abbrev pub AreNotOf : ℕ → Journal → Type 0
AreNotOf device others = list_any (is_posted_by device) others ≡ false

-- a well-formed agent serves devices
abbrev pub WellFormedServes : Type 0
WellFormedServes = (agent : Agent) → WellFormed agent → ServesDevices agent

-- what others add never makes a number of commands taken unfit
abbrev pub FittingStays : Type 0
FittingStays =
    (agent : Agent) (journal others : Journal) (device taken : ℕ)
    → IsBoardList agent journal → AreNotOf device others
    → IsTrue (fits agent journal device taken) → IsTrue (fits agent (journal ++ others) device taken)

-- nor does it close the device
abbrev pub DrivenStays : Type 0
DrivenStays =
    (agent : Agent) (journal others : Journal) (device taken : ℕ)
    → IsBoardList agent journal → AreNotOf device others
    → IsDriven agent journal device taken → IsDriven agent (journal ++ others) device taken

-- nor does it take a result back
abbrev pub ReadyStays : Type 0
ReadyStays =
    (agent : Agent) (journal others : Journal) (device taken : ℕ)
    → IsBoardList agent journal → AreNotOf device others
    → IsReady agent journal device taken → IsReady agent (journal ++ others) device taken
