-- What the program may commit, and what is added and answered for it.
use Rattle.std.specs.Prelude.{◌≡◌, ℕ, ◌<◌, ◌≤◌, false, IsTrue, [], ◌∷◌, length}
use Rattle.golog_tree.specs.declared.agent.Agent.{Agent}
use Rattle.golog_semantics.specs.declared.journal.Entry.{Entry}
use Rattle.golog_semantics.specs.declared.journal.Entry.TheVariants.{Do, Test, End}
use Rattle.golog_semantics.specs.Journal.{Journal, has_end, is_counted, count, limit}
use Rattle.golog_semantics.specs.Reports.{is_own}
use Rattle.golog_journal.specs.declared.board.Commit.{Commit}
use Rattle.golog_journal.specs.declared.board.Commit.TheVariants.{Taken, Moved}

module _ (agent : Agent) (journal : Journal) (place : ℕ) (e : Entry) where
  -- an action of the program, a test or the end
  abbrev pub IsOfProgram : Entry → Type 0
  IsOfProgram (Do action) = IsTrue (is_own agent action)
  IsOfProgram Test = Unit {0}
  IsOfProgram (End answer) = Unit {0}
  IsOfProgram other = ⊥

  -- the program has not ended, and the entry is of the program; where it is counted, and nothing was added
  -- since it was decided, there is room for it
  pub record MayCommit : Type 0 where
    pub seen : place ≤ length journal
    pub goes_on : has_end journal ≡ false
    pub of_program : IsOfProgram e
    pub room : IsTrue (is_counted e) → place ≡ length journal → count journal < limit

  -- the entry joined the list at this place, at which the list ended
  pub record Joined (added : Journal) : Type 0 where
    pub at_end : length journal ≡ place
    pub one : added ≡ e ∷ []

  -- the list is longer, and nothing is added
  pub record IsLonger (longer : ℕ) (added : Journal) : Type 0 where
    pub above : place < length journal
    pub told : longer ≡ length journal
    pub none : added ≡ []

  abbrev pub CommitIs : Commit → Journal → Type 0
  CommitIs Taken added = Joined added
  CommitIs (Moved longer) added = IsLonger longer added
