-- What a lead gathers at the end.
use Rattle.std.specs.Prelude.{◌≡◌, ◌≤◌, ℕ, true, List, ◌++◌, length}
use Rattle.golog_tree.specs.declared.agent.Agent.{Agent}
use Rattle.golog_semantics.specs.Journal.{Journal, longest}
use Rattle.golog_journal.specs.Boards.{IsBoardList}
use Rattle.golog_journal.specs.Laws.{AreNotOf}
use Rattle.golog_turn.specs.Parties.{contains}

-- what was gathered goes on from what a seat had seen, with nothing of a device that the seat holds, and is a board's list
pub record Gathered (agent : Agent) (seen list : Journal) (ps : List ℕ) : Type 0 where
  pub since : Journal
  pub is : list ≡ seen ++ since
  pub none : (device : ℕ) → contains ps device ≡ true → AreNotOf device since
  pub lawful : IsBoardList agent list
  pub short : length list ≤ longest
