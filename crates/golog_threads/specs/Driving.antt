-- What drivers of devices find and make of the history of a run. (This project's own.)
use Rattle.std.specs.Prelude.{◌≡◌, ℕ, ◌+◌, ◌<◌, ◌≤◌, ◌==◌, true, false, Bool, IsTrue, List, [], ◌∷◌, ◌++◌, length, slice_index_or}
use Rattle.std.specs.List.{list_any}
use Rattle.golog_tree.specs.declared.agent.Agent.{Agent}
use Rattle.golog_semantics.specs.declared.journal.Entry.{Entry}
use Rattle.golog_semantics.specs.declared.journal.Entry.TheVariants.{Close}
use Rattle.golog_semantics.specs.declared.journal.Reason.TheVariants.{Refused}
use Rattle.golog_semantics.specs.Journal.{Journal, device_limit, is_open, has_end, longest}
use Rattle.golog_semantics.specs.Dealt.{Meaning, Script, WasDealtWith}
use Rattle.golog_journal.specs.Boards.{IsBoardList}
use Rattle.golog_journal.specs.Taken.{IsReady}
use Rattle.golog_device.specs.Dealing.{DealtNow}
use Rattle.golog_turn.specs.Parties.{contains}

-- these parties in a row are held
abbrev pub HoldsFrom : ℕ → ℕ → List ℕ → Type 0
HoldsFrom first count parties = (i : ℕ) → i < count → contains parties (first + i) ≡ true

-- the list goes on from the earlier one
pub record GoesFrom (old new : Journal) : Type 0 where
  pub since : Journal
  pub is : new ≡ old ++ since

-- the closing of the device for its refusal of its script
abbrev pub is_refusal_of : ℕ → Entry → Bool
is_refusal_of device (Close poster Refused taken) = poster == device
is_refusal_of device e = false

-- the device has refused its script
abbrev pub has_refused : ℕ → Journal → Bool
has_refused device journal = list_any (is_refusal_of device) journal

module _ {D : Type 0} (agent : Agent) (meaning : D → Meaning) where
  -- The device is closed in the new list. With a script, as it was dealt with in the old list, when it had taken no
  -- command, it is dealt with in the new one to its close. One that was closed in the old list is as it was, and one
  -- that has refused its script had done so in the old list.
  pub record HasServed (old new : Journal) (device : ℕ) (was is : D) : Type 0 where
    pub shut : is_open device new ≡ false
    pub dealt : (script : Script) → DealtNow agent device old 0 script (meaning was)
        → WasDealtWith agent device new script (meaning is)
    pub same : is_open device old ≡ false → is ≡ was
    pub refused : has_refused device new ≡ true → has_refused device old ≡ true

  -- so have the devices from this number on
  abbrev pub HaveServed : Journal → Journal → ℕ → List D → List D → Type 0
  HaveServed old new first [] [] = Unit {0}
  HaveServed old new first (d ∷ ds) (e ∷ es) = HasServed old new first d e × HaveServed old new (first + 1) ds es
  HaveServed old new first _ _ = ⊥

  -- what a seat that holds so many parties in a row has seen when their devices are closed
  pub record HasDriven (first : ℕ) (old new : Journal) (parties : List ℕ) (ds es : List D) : Type 0 where
    pub holds : HoldsFrom first (length ds) parties
    pub goes : GoesFrom old new
    pub lawful : IsBoardList agent new
    pub served : HaveServed old new first ds es

  -- What a run over threads has made of the history, which the new list is, and of the devices: it goes on from the old
  -- one, keeps the rules of boards' lists, is no longer than a journal may be, and has the end, and each device has
  -- served. (Online execution, De Giacomo and Levesque 1999, of several devices.)
  pub record RunsOverThreads (old new : Journal) (ds es : List D) : Type 0 where
    pub goes : GoesFrom old new
    pub lawful : IsBoardList agent new
    pub short : length new ≤ longest
    pub ended : IsTrue (has_end new)
    pub served : HaveServed old new 0 ds es

-- what a seat for so many devices from the first one on has seen, when they are to have their first turns
pub record MayDrive (agent : Agent) (first count : ℕ) (seen : Journal) (parties : List ℕ) (opens : List Bool)
    : Type 0 where
  pub holds : HoldsFrom first count parties
  pub few : first + count ≤ device_limit
  pub lawful : IsBoardList agent seen
  pub told : (i : ℕ) → i < count → slice_index_or opens (first + i) false ≡ is_open (first + i) seen
  pub ready : (i : ℕ) → i < count → is_open (first + i) seen ≡ true → IsReady agent seen (first + i) 0
