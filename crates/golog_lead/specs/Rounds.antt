-- A run without threads: each open device in order has one turn, and then the program has one, until the
-- program has ended and each device is closed. (This project's own.)
use Rattle.std.specs.Prelude.{◌≡◌, ◌⊎◌, ℕ, ◌<◌, nat_lt, Bool, true, false, IsTrue, IsSomeAnd, List, ◌∷◌, ◌++◌, length, map, slice_get}
use Rattle.std.specs.List.{list_all, list_any}
use Rattle.golog_tree.specs.declared.agent.Agent.{Agent}
use Rattle.golog_semantics.specs.declared.journal.Entry.{Entry}
use Rattle.golog_semantics.specs.declared.journal.Entry.TheVariants.{Close, End}
use Rattle.golog_semantics.specs.declared.journal.Reason.TheVariants.{Refused}
use Rattle.golog_semantics.specs.declared.journal.Answer.{Answer}
use Rattle.golog_semantics.specs.Journal.{Journal, is_open, is_close}
use Rattle.golog_semantics.specs.Online.{is_whole}
use Rattle.golog_semantics.specs.Inline.{rounds, round_limit}
use Rattle.golog_semantics.specs.InlineText.{new_scripted}
use Rattle.golog_semantics.specs.Dealt.{Script, WasDealtWith}
use Rattle.golog_journal.specs.Taken.{IsReady}
use Rattle.golog_device.specs.Dealing.{DealtNow}
use Rattle.golog_device.specs.Slots.{Standing, EachSlot, ChangesIf}

-- the new journal is the old one with more entries, or with none
abbrev pub Adds : Journal → Journal → Type 0
Adds old new = (later : Journal) × (new ≡ old ++ later)

-- each open device may have its first turn
abbrev pub AreReady : Agent → Journal → Type 0
AreReady agent journal =
    (device : ℕ) → device < length agent.devices → is_open device journal ≡ true
    → IsReady agent journal device 0

-- a device that was dealt with so far, when it had taken no command, is dealt with to its close
abbrev pub IsDealtWith : Agent → Journal → Journal → ℕ → Standing → Standing → Type 0
IsDealtWith agent old new device was is =
    (script : Script) → DealtNow agent device old 0 script was.meaning
    → WasDealtWith agent device new script is.meaning

-- a device is dealt with, and one that was closed at first stays as it was
pub record HasServed (agent : Agent) (old new : Journal) (device : ℕ) (was is : Standing) : Type 0 where
  pub dealt : IsDealtWith agent old new device was is
  pub shut : is_open device old ≡ false → is ≡ was

-- a device of the agent has served the run, and a box that no device needs stays as it was
abbrev pub HasRun : Agent → Journal → Journal → ℕ → Standing → Standing → Type 0
HasRun agent old new device was is =
    ChangesIf (nat_lt device (length agent.devices)) (HasServed agent old new device) was is

-- the closing of a device that refused its script
abbrev pub is_refusal : Entry → Bool
is_refusal (Close device Refused taken) = true
is_refusal e = false

-- the device of each slot tells that it has this left of its script
abbrev pub TellLeft : List Standing → List Script → Type 0
TellLeft standings scripts =
    (slot : ℕ) → slot < length scripts
    → IsSomeAnd (slice_get standings slot) (λ s. s.meaning.left ≡ slice_get scripts slot)

-- Behind these entries stand those of the rounds with these scripts, in each of which the program's turn makes of the
-- journal what `made` says; or the program ended early, and then the first of those stand, with the end and the
-- closings behind it.
abbrev pub FollowsRounds : (Journal → Journal) → (Answer → Type 0) → Agent → List Script → Journal → Journal → Type 0
FollowsRounds made early agent scripts old new =
    let whole = (rounds agent made round_limit (record { journal = old; devices = map new_scripted scripts })).journal in
    (new ≡ whole)
    ⊎ ((before later closings : Journal) × (answer : Answer) × early answer × (whole ≡ before ++ later)
    × IsTrue (list_all is_close closings) × (new ≡ before ++ End answer ∷ closings))

-- What a run has made of the journal and the devices, all of which had begun: none refuses its script any more. The
-- lead keeps `keeps` of its journal, its turn alone makes `made` of it, and its early ends have an answer of `early`.
pub record RunsToEnd (keeps : Journal → Type 0) (made : Journal → Journal) (early : Answer → Type 0) (agent : Agent)
    (old new : Journal) (olds news : List Standing) : Type 0 where
  pub since : Journal
  pub grows : new ≡ old ++ since
  pub unrefused : list_any is_refusal since ≡ false
  pub kept : keeps new
  pub whole : is_whole agent new ≡ true
  pub run : EachSlot (HasRun agent old new) olds news
  pub scripted : (scripts : List Script) → length scripts ≡ length agent.devices → TellLeft olds scripts
      → FollowsRounds made early agent scripts old new
