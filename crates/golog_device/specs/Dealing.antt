-- How a device has been dealt with so far, and what one more turn makes of it. (This project's own.)
use Rattle.std.specs.Prelude.{◌≡◌, ℕ, Bool, true, false, IsTrue, Option, Some, None, IfSome, ⊤, List, [], ◌++◌, take, map}
use Rattle.std.specs.List.{list_all, flat_map}
use Rattle.golog_tree.specs.declared.agent.Agent.{Agent}
use Rattle.golog_semantics.specs.Journal.{Journal, commands, is_open}
use Rattle.golog_semantics.specs.Text.{at_each}
use Rattle.golog_semantics.specs.Inline.{Scripted, turn}
use Rattle.golog_semantics.specs.Dealt.{Meaning, Told, Script, told_value, told_idle, GivenFits, service, items, wakes, IsNamed, WasDealtWith}
use Rattle.golog_device.specs.declared.turn.Turned.{Turned}
use Rattle.golog_device.specs.declared.turn.Turned.TheVariants.{Served, Posted, Rested, Nothing, Closed}

-- what was told and what is left are the script
pub record KeepsScript (script left : Script) (told : List Told) : Type 0 where
  pub answers : flat_map told_value told ++ left.answers ≡ script.answers
  pub idle : flat_map told_idle told ++ left.idle ≡ script.idle

-- a device that has this left of its script, and has taken so many commands
abbrev pub scripted : Script → ℕ → Scripted
scripted left taken = record { answers = left.answers; idle = left.idle; taken = taken }

module _ (agent : Agent) (device : ℕ) where
  -- What an open device was given and told fits the journal, none of its results being awaited: it has begun
  -- under its name, it was given the commands that it has taken, it told its items that stand, and it was not
  -- asked for more while it rested.
  pub record DealtSoFar (journal : Journal) (taken : ℕ) (script : Script) (m : Meaning) : Type 0 where
    pub named : IsNamed agent device m
    pub given : IfSome m.given
        (λ given. let served = map (service agent device) (take taken (commands agent device journal)) in
        GivenFits agent device m.cut given served)
    pub told : IfSome m.told (λ told. told ≡ items agent device journal)
    pub rested : IsTrue (list_all (λ b. b) (at_each (wakes agent device) [] journal))
    pub left : IfSome m.left (λ left. IfSome m.told (λ told. KeepsScript script left told))

  -- after a turn it is dealt with so far, or it was closed and is dealt with
  abbrev pub DealtAfter : Turned → Journal → ℕ → Script → Meaning → Type 0
  DealtAfter Closed journal taken script m = WasDealtWith agent device journal script m
  DealtAfter Served journal taken script m = DealtSoFar journal taken script m
  DealtAfter Posted journal taken script m = DealtSoFar journal taken script m
  DealtAfter Rested journal taken script m = DealtSoFar journal taken script m
  DealtAfter Nothing journal taken script m = DealtSoFar journal taken script m

  -- a device that tells what is left of its script has the turn of a scripted device
  abbrev pub LeftAfter : Option Script → Journal → ℕ → Option Script → Journal → ℕ → Type 0
  LeftAfter None old taken is new count = ⊤
  LeftAfter (Some left) old taken None new count = ⊥
  LeftAfter (Some left) old taken (Some later) new count =
      turn agent old device (scripted left taken) ≡ (new, scripted later count)

  abbrev pub ScriptedTurn : Journal → ℕ → Meaning → Journal → ℕ → Meaning → Type 0
  ScriptedTurn old taken was new count is = LeftAfter was.left old taken is.left new count

  -- where the device is open it is dealt with so far, and where it was closed it is dealt with
  abbrev pub DealtIf : Bool → Journal → ℕ → Script → Meaning → Type 0
  DealtIf true journal taken script m = DealtSoFar journal taken script m
  DealtIf false journal taken script m = WasDealtWith agent device journal script m

  abbrev pub DealtNow : Journal → ℕ → Script → Meaning → Type 0
  DealtNow journal taken script m = DealtIf (is_open device journal) journal taken script m

-- the script is what the device has left, where it tells that
abbrev pub HasLeft : Script → Meaning → Type 0
HasLeft script m = IfSome m.left (λ left. left ≡ script)
