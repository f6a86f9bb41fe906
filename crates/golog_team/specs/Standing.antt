-- A side of a team, between its steps. (This project's own.)
use Rattle.std.specs.Prelude.{◌≡◌, ◌≤◌, [], length, take}
use Rattle.golog_semantics.specs.Journal.{has_end, longest}
use Rattle.golog_semantics.specs.WellFormed.{WellFormed}
use Rattle.golog_journal.specs.Leading.{Mind, IsBehind, SameMind}
use Rattle.golog_team.specs.declared.side.Side.{Side}
use Rattle.golog_team.specs.Links.{room}
use Rattle.golog_team.specs.Steps.{Station}
use Rattle.golog_team.specs.Notes.{across}
use Rattle.golog_team.specs.Keeping.{MayTeam, Keeps, IsOver}
use Rattle.golog_team.specs.Wires.{View}
use Rattle.golog_team.specs.Sides.{at_read, IsToldOf}

module _ {L W : Type 0} (mind : L → Mind) (view : W → View) where
  -- what it has of the link and of its journal
  abbrev pub station_of : Side L W → Station
  station_of s = at_read (view s.wire) s.told.read s.journal.entries s.taken

  -- its parts fit one another
  pub record IsHeld (s : Side L W) : Type 0 where
    pub formed : WellFormed s.agent.now × WellFormed s.other.now
    pub may : MayTeam s.agent.now s.other.now s.side (mind s.lead).waits
    pub facts_are : s.facts.now ≡ s.other.now
    pub of_agent : (s.journal.agent ≡ s.agent.now) × ((mind s.lead).agent ≡ s.agent.now)
    pub of_side : (view s.wire).side ≡ s.side
    pub within : (s.told.read ≤ length (view s.wire).seen) × (length (view s.wire).seen ≤ room)
    pub told_is : IsToldOf s.side (take s.told.read (view s.wire).seen) s.told
    pub behind : IsBehind (mind s.lead).list s.journal.entries
    pub ended_is : s.ended ≡ has_end s.journal.entries

  -- and it keeps what a side keeps
  pub record IsSide (s : Side L W) : Type 0 where
    pub held : IsHeld s
    pub keeps : Keeps s.agent.now s.other.now s.side (mind s.lead).waits (station_of s)

  -- it is of the same agents, and its program is the same
  pub record SameSide (old new : Side L W) : Type 0 where
    pub same_side : new.side ≡ old.side
    pub same_agent : new.agent.now ≡ old.agent.now
    pub same_other : new.other.now ≡ old.other.now
    pub same_mind : SameMind (mind old.lead) (mind new.lead)

  -- nothing of it is new but what it has of the link
  abbrev pub IsSameBut : Side L W → Side L W → Type 0
  IsSameBut old new = new ≡ record old { wire = new.wire }

  -- it has gone on until it was over
  pub record HasGone (stands : L → Type 0) (old new : Side L W) : Type 0 where
    pub is_side : IsSide new
    pub same : SameSide old new
    pub stood : stands old.lead → stands new.lead
    pub over : IsOver new.side (view new.wire).seen new.journal.entries

  -- and its program has copied its whole journal
  pub record HasRun (stands : L → Type 0) (old new : Side L W) : Type 0 where
    pub gone : HasGone stands old new
    pub whole : (mind new.lead).list ≡ new.journal.entries
    pub short : length new.journal.entries ≤ longest

module _ {L M W : Type 0} (mind : L → Mind) (their_mind : M → Mind) (view : W → View) where
  -- the two sides of a team
  pub record ArePair (one : Side L W) (other : Side M W) : Type 0 where
    pub one_is : IsSide mind view one
    pub other_is : IsSide their_mind view other
    pub opposite : other.side ≡ across one.side
    pub their_agent : other.agent.now ≡ one.other.now
    pub their_other : other.other.now ≡ one.agent.now
