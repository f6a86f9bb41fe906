-- What a side keeps from step to step. (This project's own.)
use Rattle.std.specs.Prelude.{◌≡◌, ◌≢◌, ◌⊎◌, ℕ, ◌≤◌, Bool, true, false, not, IsTrue, ◌&&◌, Some, List, [], ◌∷◌, ◌++◌, length, take, Contains}
use Rattle.std.specs.List.{list_any}
use Rattle.golog_tree.specs.declared.agent.Agent.{Agent}
use Rattle.golog_semantics.specs.declared.journal.Entry.TheVariants.{Rest, Close}
use Rattle.golog_semantics.specs.declared.journal.Reason.{Reason}
use Rattle.golog_semantics.specs.declared.journal.Reason.TheVariants as why
use Rattle.golog_semantics.specs.Journal.{Journal, has_end, is_carried_by, is_open, is_at_rest, is_quiet}
use Rattle.golog_semantics.specs.Text.{Text}
use Rattle.golog_semantics.specs.WellFormed.{WellFormed}
use Rattle.golog_journal.specs.Boards.{IsBoardList}
use Rattle.golog_journal.specs.Taken.{IsReady}
use Rattle.golog_team.specs.declared.note.Note.TheVariants.{Waiting, Ended}
use Rattle.golog_team.specs.Notes.{Notes, put_by, across, is_own, is_send, sends, ends, waited}
use Rattle.golog_team.specs.Shapes.{AreMatched}
use Rattle.golog_team.specs.Linked.{commanded, posted, is_sense, texts, Begins, WaitsAt, BothWaitAt, HasEnded}
use Rattle.golog_team.specs.Steps.{Station, seen_at}

-- what the other side has sent among these, as texts
abbrev pub heard_in : Agent → ℕ → Notes → List Text
heard_in other side notes = texts other (sends (across side) notes)

module _ (agent other : Agent) (side : ℕ) where
  -- one of these is no action of the other agent's device
  abbrev pub has_stranger : Notes → Bool
  has_stranger notes = list_any (λ a. not (is_carried_by other 0 a)) (sends (across side) notes)

  -- all that was sent before the Ended of the other side has come
  pub record CameToEnd (notes : Notes) (journal : Journal) : Type 0 where
    pub before : Notes
    pub later : Notes
    pub stands : notes ≡ before ++ put_by (across side) Ended ∷ later
    pub whole : texts agent (posted journal) ≡ heard_in other side before

  -- why the device was closed, when it had taken so many commands
  pub record IsClosedFor (notes : Notes) (journal : Journal) (count : ℕ) (reason : Reason) (taken : ℕ) : Type 0 where
    pub same_taken : taken ≡ count
    pub unrefused : reason ≢ why.Refused
    pub bad : reason ≡ why.Bad → has_stranger notes ≡ true
    pub at_end : reason ≡ why.Ended → CameToEnd notes journal

  abbrev pub ClosedSo : Notes → Journal → ℕ → Type 0
  ClosedSo notes journal count =
      (reason : Reason) (taken : ℕ) → Contains journal (Close 0 reason taken)
      → IsClosedFor notes journal count reason taken

-- the program has ended, its device is closed, and it has said so
pub record IsOver (side : ℕ) (seen : Notes) (journal : Journal) : Type 0 where
  pub finished : has_end journal ≡ true
  pub shut : is_open 0 journal ≡ false
  pub ended : HasEnded side seen journal

-- at each Rest both waited
abbrev pub RestedSo : ℕ → Notes → Journal → Type 0
RestedSo side notes journal =
    (before later : Journal) (k : ℕ) → journal ≡ before ++ Rest 0 k ∷ later → BothWaitAt side notes (length before)

module _ (agent other : Agent) (side : ℕ) (waits : Journal → Bool) where
  -- each Waiting is so
  abbrev pub WaitedSo : Notes → Journal → Type 0
  WaitedSo notes journal =
      (before later : Notes) (n : ℕ) → notes ≡ before ++ put_by side (Waiting n) ∷ later
      → WaitsAt agent side waits before journal n

  -- what it has said of its journal is still so, while the device may post
  abbrev pub StillSo : Notes → Journal → Type 0
  StillSo notes journal =
      (n : ℕ) → waited side notes ≡ Some n → has_end journal ≡ false → is_open 0 journal ≡ true
      → is_at_rest agent journal 0 ≡ false → length (sends side notes) ≡ length (commanded agent journal)
      → n ≡ length journal

  -- the agents may be a team, and the program waits only for its device
  pub record MayTeam : Type 0 where
    pub formed : WellFormed agent
    pub matched : AreMatched agent other
    pub one_of_two : side ≤ 1
    pub goes_on : (journal : Journal) → IsTrue (is_quiet agent journal) → waits journal ≡ false

  pub record Keeps (s : Station) : Type 0 where
    -- its journal is one of its agent, and its device has taken what it has sent
    pub lawful : IsBoardList agent s.journal
    pub few : s.taken ≤ length (commanded agent s.journal)
    pub ready : is_open 0 s.journal ≡ true → IsReady agent s.journal 0 s.taken
    pub sent : sends side (seen_at s) ≡ take s.taken (commanded agent s.journal)
    -- what has come is what it has read, while its device is open
    pub came : Begins (texts agent (posted s.journal)) (heard_in other side s.told)
    pub all_came : is_open 0 s.journal ≡ true → texts agent (posted s.journal) ≡ heard_in other side s.told
    pub closed : ClosedSo agent other side s.told s.journal s.taken
    pub senseless : list_any is_sense s.journal ≡ false
    -- its own notes that it has not read are commands
    pub unread_sends : list_any (λ n. is_own side n && not (is_send n.note)) s.unread ≡ false
    pub waited_so : WaitedSo s.told s.journal
    pub rested_so : RestedSo side s.told s.journal
    pub still : StillSo s.told s.journal
    -- it has not said that it has ended, or it is over
    pub over : (ends side (seen_at s) ≡ 0) ⊎ IsOver side (seen_at s) s.journal
