-- Moments of a run without threads, and what a turn of a device, the turns of all devices, a round, and the
-- rounds so far make of them. (This project's own.)
use Rattle.std.specs.Prelude.{◌≡◌, ◌⊎◌, ℕ, ◌+◌, ◌<◌, ◌≤◌, nat_lt, Bool, true, false, IsTrue, Option, List, ◌∷◌, ◌++◌, length, take, drop, option_map, option_and_then, slice_get, slice_index_or}
use Rattle.std.specs.List.{list_all, list_any, sum}
use Rattle.std.specs.Option.{option_map_or}
use Rattle.golog_tree.specs.declared.agent.Agent.{Agent}
use Rattle.golog_semantics.specs.declared.journal.Entry.{Entry}
use Rattle.golog_semantics.specs.declared.journal.Entry.TheVariants.{End}
use Rattle.golog_semantics.specs.declared.journal.Answer.{Answer}
use Rattle.golog_semantics.specs.Journal.{Journal, commands, poster_of, is_posted_by, is_close, is_open, is_at_rest, has_end}
use Rattle.golog_semantics.specs.Inline.{Scripted, Stage, turns_from, round, rounds}
use Rattle.golog_semantics.specs.Dealt.{Script}
use Rattle.golog_journal.specs.Taken.{IsReady}
use Rattle.golog_device.specs.Dealing.{scripted, DealtNow, ScriptedTurn}
use Rattle.golog_device.specs.Slots.{Standing, EachSlot, ChangesIf}
use Rattle.golog_lead.specs.Rounds.{is_refusal}
use Rattle.golog_lead.specs.Short.{EndsShort}

-- a moment of a run: the entries so far, how many commands each device has taken, and how the devices stand
pub record Moment : Type 0 where
  pub journal : Journal
  pub taken : List ℕ
  pub standings : List Standing

-- the moment at these entries
abbrev pub moment : Journal → List ℕ → List Standing → Moment
moment journal taken standings = record { journal = journal; taken = taken; standings = standings }

-- how many commands the device has taken
abbrev pub taken_by : List ℕ → ℕ → ℕ
taken_by taken device = slice_index_or taken device 0

-- how far a run has come: its entries and the commands taken, counted together
abbrev pub progress : Moment → ℕ
progress moment = length moment.journal + sum moment.taken

-- an entry of one of the first devices, of so many
abbrev pub is_of_first : ℕ → Entry → Bool
is_of_first count e = option_map_or (λ device. nat_lt device count) (poster_of e) false

-- what a device that tells its script is, as a scripted one
abbrev pub told_at : Moment → ℕ → Option Scripted
told_at moment device =
    let taken = taken_by moment.taken device in
    option_and_then (λ (s : Standing). option_map (λ left. scripted left taken) s.meaning.left)
    (slice_get moment.standings device)

module _ (agent : Agent) where
  -- No device has taken more commands than it has, and each open one of the agent may have its next turn.
  pub record MayGoOn (journal : Journal) (taken : List ℕ) : Type 0 where
    pub few : (device : ℕ) → taken_by taken device ≤ length (commands agent device journal)
    pub ready : (device : ℕ) → device < length agent.devices → is_open device journal ≡ true
        → IsReady agent journal device (taken_by taken device)

  -- the program has not ended, and the device is at rest
  pub record RestsAt (journal : Journal) (device : ℕ) : Type 0 where
    pub goes_on : has_end journal ≡ false
    pub at_rest : IsTrue (is_at_rest agent journal device)

  -- nothing was added and no command taken, for the device rests
  pub record LeavesAll (device : ℕ) (old : Journal) (taken : ℕ) (new : Journal) (count : ℕ) : Type 0 where
    pub same : new ≡ old
    pub same_taken : count ≡ taken
    pub rests : RestsAt old device

  -- What a turn of an open device made of the entries and of the number of its commands taken: it added
  -- entries of the device, of which none refuses its script, and the device may have its next turn where it
  -- is still open. It went forward unless the device rests.
  pub record TurnMade (device : ℕ) (old : Journal) (taken : ℕ) (new : Journal) (count : ℕ) : Type 0 where
    pub since : Journal
    pub grows : new ≡ old ++ since
    pub own : IsTrue (list_all (is_posted_by device) since)
    pub unrefused : list_any is_refusal since ≡ false
    pub few : count ≤ length (commands agent device new)
    pub ready : is_open device new ≡ true → IsReady agent new device count
    pub goes : (length old + taken < length new + count) ⊎ LeavesAll device old taken new count

  -- What it made of the device: it is dealt with as it was, and one that tells its script had the turn of a
  -- scripted one.
  pub record DeviceMade (device : ℕ) (old : Journal) (taken : ℕ) (new : Journal) (count : ℕ) (was is : Standing)
      : Type 0 where
    pub dealt : (script : Script)
        → DealtNow agent device old taken script was.meaning
        → DealtNow agent device new count script is.meaning
    pub scripted : ScriptedTurn agent device old taken was.meaning new count is.meaning

  -- the device is dealt with as it was, and a closed one stays as it was
  pub record StaysDealt (old new : Moment) (device : ℕ) (was is : Standing) : Type 0 where
    pub dealt : (script : Script)
        → DealtNow agent device old.journal (taken_by old.taken device) script was.meaning
        → DealtNow agent device new.journal (taken_by new.taken device) script is.meaning
    pub shut : is_open device old.journal ≡ false → is ≡ was

  -- each device of the agent is, and a box that no device needs stays as it was
  abbrev pub DealsOn : Moment → Moment → Type 0
  DealsOn old new =
      EachSlot (λ device. ChangesIf (nat_lt device (length agent.devices)) (StaysDealt old new device))
      old.standings new.standings

  -- the agent's devices tell their scripts, and are these
  pub record AreScripted (moment : Moment) (devices : List Scripted) : Type 0 where
    pub one_each : length devices ≡ length agent.devices
    pub told : (device : ℕ) → device < length devices → told_at moment device ≡ slice_get devices device

  -- the moment is this stage of scripted devices
  pub record IsStage (moment : Moment) (stage : Stage) : Type 0 where
    pub entries : moment.journal ≡ stage.journal
    pub devices : AreScripted moment stage.devices

  -- these scripted devices, of which the first, of so many, have had a turn each
  abbrev pub turned : ℕ → Journal → List Scripted → Stage
  turned count journal devices =
      let made = turns_from agent 0 journal (take count devices) in
      record { journal = made.0; devices = made.1 ++ drop count devices }

  -- nothing was added and no command taken, for each of the first devices, of so many, is closed or rests
  pub record LeaveAll (count : ℕ) (old new : Moment) : Type 0 where
    pub same : new.journal ≡ old.journal
    pub same_taken : new.taken ≡ old.taken
    pub rest : (device : ℕ) → device < count → is_open device old.journal ≡ true → RestsAt old.journal device

  -- What one turn of each open device among the first, of so many, made: it added entries of theirs, of
  -- which none refuses a script, and went forward unless they all are closed or rest. Scripted devices had
  -- the turns of scripted ones.
  pub record TurnsMade (count : ℕ) (old new : Moment) : Type 0 where
    pub since : Journal
    pub grows : new.journal ≡ old.journal ++ since
    pub own : IsTrue (list_all (is_of_first count) since)
    pub unrefused : list_any is_refusal since ≡ false
    pub on : MayGoOn new.journal new.taken
    pub deals : DealsOn old new
    pub scripted : (devices : List Scripted) → AreScripted old devices
        → IsStage new (turned count old.journal devices)
    pub goes : (progress old < progress new) ⊎ LeaveAll count old new

  -- the program's turn makes `made` of a journal, and ends early with an answer of `early`
  module _ (made : Journal → Journal) (early : Answer → Type 0) where
    -- scripted devices had a round, or the program ended early in its turn
    abbrev pub RoundIs : Journal → List Scripted → Moment → Type 0
    RoundIs journal devices new =
        IsStage new (round agent made (record { journal = journal; devices = devices }))
        ⊎ EndsShort early (turns_from agent 0 journal devices).0 new.journal

    -- what a round made: it added entries, of which none refuses a script, and went forward
    pub record RoundMade (old new : Moment) : Type 0 where
      pub since : Journal
      pub grows : new.journal ≡ old.journal ++ since
      pub unrefused : list_any is_refusal since ≡ false
      pub on : MayGoOn new.journal new.taken
      pub deals : DealsOn old new
      pub scripted : (devices : List Scripted) → AreScripted old devices → RoundIs old.journal devices new
      pub goes : progress old < progress new

    -- after fewer rounds than so many, the program ended early in its turn of the next; devices were closed since
    pub record Starved (count : ℕ) (stage : Stage) (journal : Journal) : Type 0 where
      pub before : ℕ
      pub earlier : before < count
      pub closings : Journal
      pub are_closings : IsTrue (list_all is_close closings)
      pub answer : Answer
      pub short : early answer
      pub is :
          let last = rounds agent made before stage in
          journal ≡ (turns_from agent 0 last.journal last.devices).0 ++ End answer ∷ closings

    -- scripted devices had so many rounds, or the program ended early in one of these
    abbrev pub RoundsAre : ℕ → Stage → Moment → Type 0
    RoundsAre count stage new = IsStage new (rounds agent made count stage) ⊎ Starved count stage new.journal

    -- what the rounds so far made: at least as much as there were rounds
    pub record RoundsMade (old new : Moment) : Type 0 where
      pub since : Journal
      pub grows : new.journal ≡ old.journal ++ since
      pub unrefused : list_any is_refusal since ≡ false
      pub on : MayGoOn new.journal new.taken
      pub deals : DealsOn old new
      pub count : ℕ
      pub goes : count ≤ progress new
      pub scripted : (devices : List Scripted) → AreScripted old devices
          → RoundsAre count (record { journal = old.journal; devices = devices }) new
