-- What two agents come to as a team. (This project's own.)
use Rattle.std.specs.Prelude.{◌≡◌, ◌≤◌, ℕ, Bool, true, false, [], length}
use Rattle.golog_tree.specs.declared.agent.Agent.{Agent}
use Rattle.golog_semantics.specs.Journal.{Journal, has_end, is_open, longest}
use Rattle.golog_journal.specs.Boards.{IsBoardList}
use Rattle.golog_journal.specs.Leading.{Mind, SameMind}
use Rattle.golog_team.specs.Notes.{Notes}
use Rattle.golog_team.specs.Steps.{Station, station, seen_at}
use Rattle.golog_team.specs.Linked.{IsLinked}
use Rattle.golog_team.specs.Rounds.{Rounds}

-- the leads of both agents, which have copied nothing
pub record AreNew (first second : Agent) (mind their_mind : Mind) : Type 0 where
  pub one_of : mind.agent ≡ first
  pub other_of : their_mind.agent ≡ second
  pub one_new : mind.list ≡ []
  pub other_new : their_mind.list ≡ []

-- a side that has done nothing
abbrev pub nothing_done : Station
nothing_done = station [] [] [] 0

module _ (first second : Agent) (waits their_waits : Journal → Bool) (notes : Notes) (journal their_journal : Journal) where
  -- both journals came of steps in turn, from nothing, and of these notes
  pub record AreInTurn : Type 0 where
    pub one : Station
    pub other : Station
    pub rounds : Rounds first second 0 waits their_waits nothing_done nothing_done one other
    pub journals : (one.journal ≡ journal) × (other.journal ≡ their_journal)
    pub notes_are : (seen_at one ≡ notes) × (seen_at other ≡ notes)

-- the program has ended, and its device is closed
abbrev pub IsFinished : Journal → Type 0
IsFinished journal = (has_end journal ≡ true) × (is_open 0 journal ≡ false)

-- The minds of both leads before and after. Both journals are lists of their agents' boards, have come to their ends,
-- and fit the same notes.
pub record HavePlayed (first second : Agent) (in_turn : Bool) (old new their_old their_new : Mind) : Type 0 where
  pub notes : Notes
  pub same : SameMind old new × SameMind their_old their_new
  pub lawful : IsBoardList first new.list × IsBoardList second their_new.list
  pub short : (length new.list ≤ longest) × (length their_new.list ≤ longest)
  pub finished : IsFinished new.list × IsFinished their_new.list
  pub linked : IsLinked first second 0 old.waits notes new.list
  pub their_linked : IsLinked second first 1 their_old.waits notes their_new.list
  pub turns : in_turn ≡ true → AreInTurn first second old.waits their_old.waits notes new.list their_new.list
