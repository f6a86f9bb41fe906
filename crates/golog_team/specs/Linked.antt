-- What a link and the journal of one of its sides have to do with each other. (This project's own.)
use Rattle.std.specs.Prelude.{◌≡◌, ◌≢◌, ℕ, ◌≤◌, ◌==◌, Bool, true, false, Option, None, Some, List, ◌∷◌, ◌++◌, length, map, take, filter_map, Contains}
use Rattle.std.specs.List.{list_any}
use Rattle.golog_tree.specs.declared.agent.Agent.{Agent}
use Rattle.golog_semantics.specs.declared.journal.Entry.{Entry}
use Rattle.golog_semantics.specs.declared.journal.Entry.TheVariants.{Exo, Sense, Rest, Close}
use Rattle.golog_semantics.specs.declared.journal.Reason.{Reason}
use Rattle.golog_semantics.specs.declared.journal.Reason.TheVariants as why
use Rattle.golog_semantics.specs.Journal.{Journal, commands, is_open}
use Rattle.golog_semantics.specs.Text.{Text, action_text}
use Rattle.golog_team.specs.declared.note.Note.TheVariants.{Waiting, Ended}
use Rattle.golog_team.specs.Notes.{Notes, put_by, across, is_own, is_ended_of, sends, ends, waited, both_wait}

-- the actions of the commands of the one device, and those that it has posted
abbrev pub commanded : Agent → Journal → List ℕ
commanded agent journal = map (λ c. c.action) (commands agent 0 journal)

abbrev pub exo_of : Entry → Option ℕ
exo_of (Exo poster action) = Some action
exo_of e = None

abbrev pub posted : Journal → List ℕ
posted journal = filter_map exo_of journal

abbrev pub is_sense : Entry → Bool
is_sense (Sense poster place fluent value) = true
is_sense e = false

abbrev pub texts : Agent → List ℕ → List Text
texts agent actions = map (action_text agent) actions

-- the later list goes on from the earlier one
abbrev pub Begins : {A : Type 0} → List A → List A → Type 0
Begins {A} front list = (rest : List A) × (list ≡ front ++ rest)

-- In the entries before a Waiting with this length stand one Exo for each Send of the other side before it and one
-- command for each of this side's, and no more; the device is open there, and the program waits there.
pub record WaitsAt (agent : Agent) (side : ℕ) (waits : Journal → Bool) (before : Notes) (journal : Journal) (n : ℕ)
    : Type 0 where
  pub within : n ≤ length journal
  pub came : length (posted (take n journal)) ≡ length (sends (across side) before)
  pub went : length (commanded agent (take n journal)) ≡ length (sends side before)
  pub still_open : is_open 0 (take n journal) ≡ true
  pub waiting : waits (take n journal) ≡ true

-- the notes come to a point at which both wait, this side with this length
pub record BothWaitAt (side : ℕ) (notes : Notes) (n : ℕ) : Type 0 where
  pub front : Notes
  pub later : Notes
  pub cut : notes ≡ front ++ later
  pub both : both_wait front ≡ true
  pub with_length : waited side front ≡ Some n

-- Its Ended stands once, and no note of it behind. Before it stands the Ended of the other side, where that has closed
-- the device.
pub record HasEnded (side : ℕ) (notes : Notes) (journal : Journal) : Type 0 where
  pub before : Notes
  pub later : Notes
  pub stands : notes ≡ before ++ put_by side Ended ∷ later
  pub first : ends side before ≡ 0
  pub last : list_any (is_own side) later ≡ false
  pub behind : (taken : ℕ) → Contains journal (Close 0 why.Ended taken)
      → list_any (is_ended_of (across side)) before ≡ true

module _ (agent other : Agent) (side : ℕ) (waits : Journal → Bool) where
  -- The texts of what came are those of what the other side sent, by its own agent.
  pub record IsLinked (notes : Notes) (journal : Journal) : Type 0 where
    pub reason : Reason
    pub taken : ℕ
    pub closed : Contains journal (Close 0 reason taken)
    pub sent : sends side notes ≡ take taken (commanded agent journal)
    pub came : Begins (texts agent (posted journal)) (texts other (sends (across side) notes))
    pub all_came : reason ≡ why.Ended → texts agent (posted journal) ≡ texts other (sends (across side) notes)
    pub senseless : list_any is_sense journal ≡ false
    pub fair : (reason ≢ why.Bad) × (reason ≢ why.Refused)
    pub ended : HasEnded side notes journal
    pub waited_so : (before later : Notes) (n : ℕ) → notes ≡ before ++ put_by side (Waiting n) ∷ later
        → WaitsAt agent side waits before journal n
    pub rested_so : (before later : Journal) (k : ℕ) → journal ≡ before ++ Rest 0 k ∷ later
        → BothWaitAt side notes (length before)
