-- A side between its steps. (This project's own.)
use Rattle.std.specs.Prelude.{◌≡◌, ◌≢◌, ◌⊎◌, ℕ, ◌≤◌, Bool, true, false, not, ◌==◌, if◌then◌else◌, Option, Some, None, List, [], ◌∷◌, ◌++◌, length, take, drop}
use Rattle.std.specs.List.{list_any}
use Rattle.golog_tree.specs.declared.agent.Agent.{Agent}
use Rattle.golog_semantics.specs.declared.journal.Entry.{Entry}
use Rattle.golog_semantics.specs.Journal.{Journal, is_end}
use Rattle.golog_journal.specs.Boards.{IsBoardList}
use Rattle.golog_journal.specs.Leading.{is_of_program}
use Rattle.golog_team.specs.declared.note.Note.{Note}
use Rattle.golog_team.specs.declared.note.SideNote.{SideNote}
use Rattle.golog_team.specs.declared.told.Told.{Told}
use Rattle.golog_team.specs.Notes.{Notes, put_by, across, is_own, is_news, ends, has_waited}
use Rattle.golog_team.specs.Steps.{Station, station, Reads}
use Rattle.golog_team.specs.Wires.{View}

-- a side that has read so many of the notes that it has seen
abbrev pub at_read : View → ℕ → Journal → ℕ → Station
at_read view read journal taken = station (take read view.seen) (drop read view.seen) journal taken

-- what is kept of the notes that were read
pub record IsToldOf (side : ℕ) (notes : Notes) (told : Told) : Type 0 where
  pub read : told.read ≡ length notes
  pub own : told.own_waits ≡ has_waited side notes
  pub other : told.other_waits ≡ has_waited (across side) notes
  pub over : told.over ≡ not (ends side notes == 0)

-- it has come to the next news, which are read too
pub record ComesTo (side : ℕ) (old new : Station) (note : Note) : Type 0 where
  pub mid : Station
  pub reads : Reads side old mid
  pub n : SideNote
  pub later : Notes
  pub next : mid.unread ≡ n ∷ later
  pub news : is_news side n ≡ true
  pub note_is : n.note ≡ note
  pub now : new ≡ station (mid.told ++ n ∷ []) later mid.journal mid.taken

-- or to the end
abbrev pub ReadsOn : ℕ → Station → Station → Option Note → Type 0
ReadsOn side old new None = Reads side old new × (new.unread ≡ [])
ReadsOn side old new (Some note) = ComesTo side old new note

-- the note was put, or others came first
abbrev pub HasSaid : ℕ → Note → Notes → Notes → Bool → Type 0
HasSaid side note old new true = new ≡ old ++ put_by side note ∷ []
HasSaid side note old new false = (more : Notes) × (more ≢ []) × (list_any (is_own side) more ≡ false) × (new ≡ old ++ more)

-- the program has added an entry, or it waits
pub record HasAdded (agent : Agent) (waits : Journal → Bool) (old new : Journal) : Type 0 where
  pub e : Entry
  pub is : new ≡ old ++ e ∷ []
  pub of_program : is_of_program e ≡ true
  pub lawful : IsBoardList agent (old ++ e ∷ [])
  pub waiting : waits old ≡ true → is_end e ≡ true

abbrev pub HasLed : Agent → (Journal → Bool) → Journal → Journal → Type 0
HasLed agent waits old new = HasAdded agent waits old new ⊎ ((new ≡ old) × (waits old ≡ true))
