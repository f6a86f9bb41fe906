-- What is kept of the entries of a journal, so that no rule goes through them.
use Rattle.std.specs.Prelude.{◌≡◌, ◌≢◌, ℕ, ◌+◌, ◌<◌, ◌≤◌, ◌==◌, ◌&&◌, ◌||◌, Bool, false, true, not, nat_le, if◌then◌else◌, is_some, Option, Some, None, List, [], ◌∷◌, ◌++◌, length, filter_map, option_map, Contains, slice_index_or}
use Rattle.std.specs.List.{enumerate_from, list_any, list_all}
use Rattle.std.specs.Option.{option_map_or, option_or}
use Rattle.golog_tree.specs.declared.agent.Agent.{Agent}
use Rattle.golog_semantics.specs.declared.journal.Entry.{Entry}
use Rattle.golog_semantics.specs.declared.journal.Entry.TheVariants.{Do, End, Rest, Sense}
use Rattle.golog_semantics.specs.declared.journal.Answer.{Answer}
use Rattle.golog_semantics.specs.Ways.{is_empty}
use Rattle.golog_semantics.specs.Journal.{Journal, Command, command_at, commands, count, has_end, held_commands, is_carried_by, is_open, is_outstanding, is_result_of, last_of, entries_by, fluent_sensed}
use Rattle.golog_semantics.specs.Online.{told_taken}
use Rattle.golog_journal.specs.Agents.{ServesDevices}
use Rattle.golog_journal.specs.Tallies.{rested_after}
use Rattle.golog_replay.specs.declared.tracked.Awaited.{Awaited}
use Rattle.golog_replay.specs.declared.tracked.Tracked.{Tracked}
use Rattle.golog_replay.specs.declared.standing.Held.{Held}
use Rattle.golog_replay.specs.declared.standing.Standing.{Standing}

-- the answer of the end, where the program has ended
abbrev pub EndsBy : Journal → Option Answer → Type 0
EndsBy journal None = has_end journal ≡ false
EndsBy journal (Some answer) = (has_end journal ≡ true) × Contains journal (End answer)

-- a device at the start
abbrev pub untouched : Tracked
untouched = record { is_open = true; is_silent = true; commands = 0; told = 0; rested = None; first = None }

-- how many commands an entry of a device tells of, of whose commands this is the first whose result is to come
abbrev pub told_by : Entry → Option Awaited → ℕ
told_by (Sense poster place fluent value) first = option_map_or (λ a. a.number) first 0
told_by (Rest poster taken) first = taken
told_by _ first = 0

-- whether a result of this place and fluent is that of the first command whose result is to come
abbrev pub tells : Option Awaited → ℕ → ℕ → Bool
tells None place fluent = false
tells (Some a) place fluent = a.place == place && a.fluent == fluent

-- whether the first command whose result is to come is among so many
abbrev pub awaits_among : Option Awaited → ℕ → Bool
awaits_among None taken = false
awaits_among (Some a) taken = nat_le a.number taken

-- whether the device is open and a result of it is to come
abbrev pub may_tell : Tracked → Bool
may_tell t = t.is_open && is_some t.first

-- the command whose result the program waits for, unless it stands at this place
abbrev pub unless_at : Option Held → ℕ → Option Held
unless_at None place = None
unless_at (Some h) place = if h.place == place then None else Some h

-- by what is kept of it, a device is closed or at rest
abbrev pub is_quiet_by : Tracked → Bool
is_quiet_by t = not t.is_open || option_map_or (λ rested. rested == t.commands) t.rested false

-- each result in the journal is of an earlier entry than its end
abbrev pub AreEarlier : Journal → Type 0
AreEarlier journal = (place : ℕ) → length journal ≤ place → list_any (is_result_of place) journal ≡ false

module _ (agent : Agent) where
  -- the action of the entry, if it is a command of the device
  abbrev pub command_of : ℕ → Entry → Option ℕ
  command_of device (Do action) = if is_carried_by agent device action then Some action else None
  command_of device _ = None

  -- an action at a place, as a command whose result is to come, if it has one
  abbrev pub awaited_by : ℕ → ℕ → ℕ → Option Awaited
  awaited_by place action number =
      option_map (λ f. record { place = place; fluent = f; number = number }) (fluent_sensed agent action)

  -- the first of these commands that senses, if one does, where the device was sent so many before them
  abbrev pub first_awaited : ℕ → List Command → Option Awaited
  first_awaited n [] = None
  first_awaited n (c ∷ cs) = option_or (awaited_by c.place c.action (n + 1)) (first_awaited (n + 1) cs)

  -- the commands of a device among entries of which the first stands at this place
  abbrev pub commands_from : ℕ → ℕ → Journal → List Command
  commands_from device place entries = filter_map (command_at agent device) (enumerate_from place entries)

module _ (agent : Agent) (journal : Journal) where
  -- the result of the command stands
  abbrev pub has_result : Command → Bool
  has_result c = list_any (is_result_of c.place) journal

  -- no result is to come of the first commands of a device, and none has come of the later ones: this is the
  -- first of those whose result is to come
  pub record AwaitsFrom (device : ℕ) (first : Option Awaited) : Type 0 where
    pub answered : List Command
    pub coming : List Command
    pub split : commands agent device journal ≡ answered ++ coming
    pub come : list_any (is_outstanding agent journal) answered ≡ false
    pub to_come : list_any has_result coming ≡ false
    pub first_so : first ≡ first_awaited agent (length answered) coming

  -- whether the device is open and has posted nothing, how many commands it was sent, how many of them its
  -- entries tell of at most, the number at its last entry if that is a Rest, and the first result to come
  pub record IsTracked (device : ℕ) (t : Tracked) : Type 0 where
    pub open_so : t.is_open ≡ is_open device journal
    pub silent_so : t.is_silent ≡ is_empty (entries_by device journal)
    pub commands_so : t.commands ≡ length (commands agent device journal)
    pub few : t.commands ≤ length journal
    pub told_so : (taken : ℕ)
        → list_all (λ e. nat_le (told_taken agent journal e) taken) (entries_by device journal)
        ≡ nat_le t.told taken
    pub rested_so : t.rested ≡ rested_after (last_of (entries_by device journal))
    pub awaits : AwaitsFrom device t.first

  -- one for each device
  pub record AreTracked (tracked : List Tracked) : Type 0 where
    pub one_each : length tracked ≡ length agent.devices
    pub each : (device : ℕ) (d : Tracked) → device < length tracked
        → IsTracked device (slice_index_or tracked device d)

  -- the one command of its device whose result the program waits for, and it waits for that of no other's
  pub record IsHeld (h : Held) : Type 0 where
    pub is_device : h.device < length agent.devices
    pub command : Command
    pub place_so : command.place ≡ h.place
    pub own : held_commands agent h.device journal ≡ command ∷ []
    pub others : (d : ℕ) → d ≢ h.device → held_commands agent d journal ≡ []

  -- the command whose result the program waits for, if it waits for one
  abbrev pub HoldsBy : Option Held → Type 0
  HoldsBy None = (d : ℕ) → held_commands agent d journal ≡ []
  HoldsBy (Some h) = IsHeld h

  -- all that is kept is so
  pub record IsStanding (s : Standing) : Type 0 where
    pub serves : ServesDevices agent
    pub facts_so : s.facts ≡ agent
    pub tracked : AreTracked s.devices.items
    pub holds : HoldsBy s.held
    pub counted_so : s.counted ≡ count journal
    pub few : s.counted ≤ length journal
    pub ends : EndsBy journal s.ended
    pub results : AreEarlier journal
