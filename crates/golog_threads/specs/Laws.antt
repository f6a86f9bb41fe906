-- Laws of what may be asked of a board's list, whoever adds the entries.
use Rattle.std.specs.Prelude.{◌≡◌, ◌≢◌, ℕ, false, ◌++◌}
use Rattle.std.specs.List.{list_any}
use Rattle.golog_tree.specs.declared.agent.Agent.{Agent}
use Rattle.golog_semantics.specs.declared.journal.Entry.{Entry}
use Rattle.golog_semantics.specs.declared.journal.Item.{Item}
use Rattle.golog_semantics.specs.declared.journal.Item.TheVariants.{Refused}
use Rattle.golog_semantics.specs.Journal.{Journal}
use Rattle.golog_journal.specs.Boards.{IsBoardList}
use Rattle.golog_journal.specs.Posting.{MayPost}
use Rattle.golog_journal.specs.Commits.{MayCommit}
use Rattle.golog_journal.specs.Laws.{AreNotOf}
use Rattle.golog_journal.specs.Leading.{is_of_program}

-- what a device may post, other than the refusal of its script, it may post after others have added entries
abbrev pub PostStays : Type 0
PostStays =
    (agent : Agent) (journal others : Journal) (device taken : ℕ) (item : Item)
    → IsBoardList agent (journal ++ others) → AreNotOf device others → item ≢ Refused
    → MayPost agent journal device taken item → MayPost agent (journal ++ others) device taken item

-- what the program may commit it may commit after devices have added entries
abbrev pub CommitStays : Type 0
CommitStays =
    (agent : Agent) (journal others : Journal) (at : ℕ) (e : Entry)
    → list_any is_of_program others ≡ false
    → MayCommit agent journal at e → MayCommit agent (journal ++ others) at e
