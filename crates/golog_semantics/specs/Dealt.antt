-- How a device was dealt with: what it was given and told, and what the journal has of it. (This project's
-- own.)
use Rattle.std.specs.Prelude.{◌≡◌, ◌⊎◌, ℕ, ◌-◌, Bool, true, false, IsTrue, ◌==◌, nat_lt, if◌then◌else◌, Option, None, IsSome, IfSome, ⊤, List, [], ◌∷◌, ◌++◌, length, map, take, codes, slice_get}
use Rattle.std.specs.List.{list_all, flat_map}
use Rattle.std.specs.Option.{option_map_or}
use Rattle.golog_tree.specs.declared.agent.Agent.{Agent}
use Rattle.golog_semantics.specs.declared.journal.Entry.{Entry}
use Rattle.golog_semantics.specs.declared.journal.Entry.TheVariants.{Exo, Sense, Rest, Close}
use Rattle.golog_semantics.specs.declared.journal.Item.{Item}
use Rattle.golog_semantics.specs.declared.journal.Item.TheVariants as item
use Rattle.golog_semantics.specs.declared.journal.Reason.{Reason}
use Rattle.golog_semantics.specs.declared.journal.Reason.TheVariants.{Ended, Bad, Full, Late, Stopped, Refused}
use Rattle.golog_semantics.specs.Journal.{Journal, Command, fluent_sensed, is_sensing, commands, entries_by}
use Rattle.golog_semantics.specs.Text.{Text, at_each, action_text, device_text, value_text}
use Rattle.golog_semantics.specs.Posts.{awaited_command, is_bad}
use Rattle.golog_semantics.specs.Inline.{posted_action, posted_value}

-- an action's text that was served, and whether an answer was asked for
pub record Service : Type 0 where
  pub text : Text
  pub asked : Bool

-- what a device told
pub data Told : Type 0 where
  TellsPost : Text → Told
  TellsValue : Text → Told
  TellsRest : Told
  TellsClose : Told

-- answers and idle items that are still to come
pub record Script : Type 0 where
  pub answers : List Text
  pub idle : List Text

-- What a device means; a part is None where the device does not tell it. Its name is that under which it has
-- begun, and no byte before.
pub record Meaning : Type 0 where
  pub name : Option Text
  pub cut : Bool
  pub given : Option (List Service)
  pub told : Option (List Told)
  pub left : Option Script

-- what was told in answer to a command
abbrev pub told_value : Told → List Text
told_value (TellsValue bytes) = bytes ∷ []
told_value _ = []

-- what was told without one, as a script has it
abbrev pub told_idle : Told → List Text
told_idle (TellsPost bytes) = bytes ∷ []
told_idle (TellsValue bytes) = []
told_idle TellsRest = codes "rest" ∷ []
told_idle TellsClose = codes "close" ∷ []

-- what was told and what is left are the script; a device with nothing left may tell Close once
pub record FollowsScript (script left : Script) (told : List Told) : Type 0 where
  pub answers : flat_map told_value told ++ left.answers ≡ script.answers
  pub idle :
      (flat_map told_idle told ++ left.idle ≡ script.idle)
      ⊎ ((left.idle ≡ []) × (flat_map told_idle told ≡ script.idle ++ codes "close" ∷ []))

module _ (agent : Agent) (device : ℕ) where
  -- what an entry says that its device told
  abbrev pub item_of : Entry → List Told
  item_of (Exo poster action) = TellsPost (action_text agent action) ∷ []
  item_of (Sense poster place fluent value) = TellsValue (value_text agent fluent value) ∷ []
  item_of (Rest poster taken) = TellsRest ∷ []
  item_of _ = []

  -- the device's items that stand in the journal, in order
  abbrev pub items : Journal → List Told
  items journal = flat_map item_of (entries_by device journal)

  -- how a command is served
  abbrev pub service : Command → Service
  service c = record { text = action_text agent c.action; asked = is_sensing agent c.action }

  -- what an answer is posted as
  abbrev pub value_item : Option ℕ → Text → Item
  value_item fluent bytes = option_map_or (λ f. posted_value agent f bytes) fluent item.Unreadable

  -- what the last of the commands taken senses
  abbrev pub last_sensed : Journal → ℕ → Option ℕ
  last_sensed journal taken =
      let last = slice_get (commands agent device journal) (taken - 1) in
      option_map_or (λ (c : Command). fluent_sensed agent c.action) last None

  -- what the device's last item is posted as, or its silence
  abbrev pub told_item : Journal → ℕ → List Told → Item
  told_item before taken (TellsPost bytes ∷ told) = posted_action agent bytes
  told_item before taken (TellsValue bytes ∷ told) = value_item (last_sensed before taken) bytes
  told_item before taken (TellsRest ∷ told) = item.Rest
  told_item before taken (TellsClose ∷ told) = item.Close
  told_item before taken [] = item.Silent

  -- one item that does not stand in the journal, or silence where a result was awaited
  abbrev pub IsLost : Journal → ℕ → List Told → Type 0
  IsLost before taken [] = IsSome (awaited_command agent before device taken)
  IsLost before taken (TellsClose ∷ told) = ⊥
  IsLost before taken (t ∷ told) = told ≡ []

  -- what the device told last, by the reason of its Close
  abbrev pub TailFits : Journal → ℕ → Reason → List Told → Type 0
  TailFits before taken Ended tail = tail ≡ TellsClose ∷ []
  TailFits before taken Stopped tail = tail ≡ []
  TailFits before taken Bad tail =
      IsLost before taken tail × IsTrue (is_bad agent before device taken (told_item before taken tail))
  TailFits before taken Full tail = IsLost before taken tail
  TailFits before taken Late tail = IsLost before taken tail
  TailFits before taken Refused tail = ⊤

  -- it was given its commands, or the first of them where it says that it has lost the others
  abbrev pub GivenFits : Bool → List Service → List Service → Type 0
  GivenFits false given services = given ≡ services
  GivenFits true given services = (lost : List Service) × (given ++ lost ≡ services)

  -- a Rest with fewer commands taken than the device has
  abbrev pub rests_before : Journal → Entry → Bool
  rests_before before (Rest poster taken) = nat_lt taken (length (commands agent device before))
  rests_before before _ = true

  -- a device at rest is not asked for more before its next command
  abbrev pub wakes : Journal → Entry → Bool
  wakes before (Exo poster action) =
      if poster == device then list_all (rests_before before) (entries_by device before) else true
  wakes before (Rest poster taken) =
      if poster == device then list_all (rests_before before) (entries_by device before) else true
  wakes before _ = true

  -- it has begun under the name that the agent has for it
  abbrev pub IsNamed : Meaning → Type 0
  IsNamed m = IfSome m.name (λ name. name ≡ device_text agent device)

  -- the device was given its commands and told its items under its name, until it was closed for this reason
  pub record DealtUntil (before : Journal) (reason : Reason) (taken : ℕ) (script : Script) (m : Meaning)
      : Type 0 where
    pub named : IsNamed m
    pub given : IfSome m.given
        (λ given. GivenFits m.cut given (map service (take taken (commands agent device before))))
    pub told : IfSome m.told
        (λ told. (tail : List Told) × (told ≡ items before ++ tail) × TailFits before taken reason tail)
    pub rested : IsTrue (list_all (λ b. b) (at_each wakes [] before))
    pub left : IfSome m.left (λ left. IfSome m.told (λ told. FollowsScript script left told))

  -- nothing is said of a device that refused its script, but that it does not tell one
  abbrev pub DealtBy : Journal → Reason → ℕ → Script → Meaning → Type 0
  DealtBy before Refused taken script m = m.left ≡ None
  DealtBy before reason taken script m = DealtUntil before reason taken script m

  -- what the device was given and told fits the journal in which it is closed
  pub record WasDealtWith (journal : Journal) (script : Script) (m : Meaning) : Type 0 where
    pub before : Journal
    pub later : Journal
    pub reason : Reason
    pub taken : ℕ
    pub closed : journal ≡ before ++ Close device reason taken ∷ later
    pub fits : DealtBy before reason taken script m
