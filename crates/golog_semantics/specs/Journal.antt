-- The facts of a journal: commands, results that are still to come, and which devices are open or at rest.
use Rattle.std.specs.Prelude.{ℕ, Bool, true, false, not, ◌+◌, ◌==◌, nat_le, ◌&&◌, ◌||◌, if◌then◌else◌, Option, Some, None, is_some, List, length, map, filter, find, filter_map, fold, count_by, slice_get, option_map, option_and_then}
use Rattle.std.specs.List.{list_any, list_all, enumerate_from, range_with_len}
use Rattle.std.specs.Option.{option_map_or}
use Rattle.golog_tree.specs.declared.agent.Agent.{Agent}
use Rattle.golog_tree.specs.declared.agent.ActionItem.{ActionItem}
use Rattle.golog_tree.specs.declared.agent.SenseItem.{SenseItem}
use Rattle.golog_semantics.specs.declared.journal.Entry.{Entry}
use Rattle.golog_semantics.specs.declared.journal.Entry.TheVariants.{Do, Exo, Sense, Rest, Close, End}
use Rattle.golog_tree.specs.Ground.{fluent_no}
use Rattle.golog_semantics.specs.Truth.{env_of, arg_value}
use Rattle.golog_semantics.specs.Values.{Ground, ground_actions}
use Rattle.golog_semantics.specs.Ways.{is_empty}

-- the entries so far, the first of them first
abbrev pub Journal : Type 0
Journal = List Entry

-- a Do entry and its place
pub record Command : Type 0 where
  pub place : ℕ
  pub action : ℕ

module _ (agent : Agent) where
  -- the numbers of the devices
  abbrev pub devices : List ℕ
  devices = range_with_len 0 (length agent.devices)

  -- the item of a ground action
  abbrev pub action_item : ℕ → Option ActionItem
  action_item action =
      option_and_then (λ at. slice_get agent.actions at.0) (slice_get (ground_actions agent) action)

  -- the device that carries an action out
  abbrev pub device_of : ℕ → Option ℕ
  device_of action = option_and_then (λ item. item.device) (action_item action)

  -- this device carries the action out
  abbrev pub is_carried_by : ℕ → ℕ → Bool
  is_carried_by device action = option_map_or (λ d. d == device) (device_of action) false

  -- the device may post the exogenous action
  abbrev pub may_post : ℕ → ℕ → Bool
  may_post device action =
      option_map_or (λ item. list_any (λ p. p == device) item.posters) (action_item action) false

  -- the ground fluent that an item names at these arguments
  abbrev pub sensed_by : Ground → SenseItem → ℕ
  sensed_by (action, args) item = fluent_no agent item.fluent (map (arg_value (env_of args)) item.args)

  -- the item that says what the result of an action tells
  abbrev pub sense_item : Ground → Option SenseItem
  sense_item at = find (λ item. item.action == at.0) agent.senses

  -- the ground fluent whose value the result of an action tells
  abbrev pub fluent_sensed : ℕ → Option ℕ
  fluent_sensed action =
      option_and_then (λ at. option_map (sensed_by at) (sense_item at)) (slice_get (ground_actions agent) action)

  -- a device answers the action with a value
  abbrev pub is_sensing : ℕ → Bool
  is_sensing action = is_some (fluent_sensed action)

  -- the program goes on only after the result of this action: it has one, which may not come later
  abbrev pub is_held : ℕ → Bool
  is_held action =
      let at_item = option_and_then sense_item (slice_get (ground_actions agent) action) in
      option_map_or (λ item. not item.later) at_item false

  -- the command of a device that an entry is, if it is one
  abbrev pub command_at : ℕ → ℕ × Entry → Option Command
  command_at device (place, Do action) =
      if is_carried_by device action then Some (record { place = place; action = action }) else None
  command_at device (place, _) = None

  -- the commands of a device, in order
  abbrev pub commands : ℕ → Journal → List Command
  commands device journal = filter_map (command_at device) (enumerate_from 0 journal)

-- the entry is the result of the command at this place
abbrev pub is_result_of : ℕ → Entry → Bool
is_result_of place (Sense poster at fluent value) = at == place
is_result_of place _ = false

-- the device that an entry is of
abbrev pub poster_of : Entry → Option ℕ
poster_of (Exo poster action) = Some poster
poster_of (Sense poster place fluent value) = Some poster
poster_of (Rest poster taken) = Some poster
poster_of (Close poster reason taken) = Some poster
poster_of _ = None

-- the entry is of this device
abbrev pub is_posted_by : ℕ → Entry → Bool
is_posted_by device entry = option_map_or (λ p. p == device) (poster_of entry) false

-- the entries of a device, in order
abbrev pub entries_by : ℕ → Journal → Journal
entries_by device journal = filter (is_posted_by device) journal

-- the entry closes a device
abbrev pub is_close : Entry → Bool
is_close (Close poster reason taken) = true
is_close _ = false

-- the entry ends the program
abbrev pub is_end : Entry → Bool
is_end (End answer) = true
is_end _ = false

-- the program has ended
abbrev pub has_end : Journal → Bool
has_end journal = list_any is_end journal

-- a device is open until it is closed
abbrev pub is_open : ℕ → Journal → Bool
is_open device journal = not (list_any is_close (entries_by device journal))

-- counted entries are all but those that close a device or end the program
abbrev pub is_counted : Entry → Bool
is_counted entry = not (is_close entry || is_end entry)

-- how many counted entries stand
abbrev pub count : Journal → ℕ
count journal = count_by is_counted journal

-- how many counted entries a journal takes
abbrev pub limit : ℕ
limit = 1048576

-- the greatest number of devices
abbrev pub device_limit : ℕ
device_limit = 16

-- how long a journal may be: the counted entries, the end, and an entry that closes each device
abbrev pub longest : ℕ
longest = limit + 1 + device_limit

-- the journal takes no further counted entry
abbrev pub is_full : Journal → Bool
is_full journal = nat_le limit (count journal)

-- the last entry
abbrev pub last_of : Journal → Option Entry
last_of journal = fold (λ last e. Some e) None journal

-- the entry is a Rest with so many commands taken
abbrev pub is_rest_after : ℕ → Entry → Bool
is_rest_after count (Rest poster taken) = taken == count
is_rest_after count _ = false

module _ (agent : Agent) where
  -- a sensing command that has no result yet
  abbrev pub is_outstanding : Journal → Command → Bool
  is_outstanding journal c = is_sensing agent c.action && not (list_any (is_result_of c.place) journal)

  -- the sensing commands of a device that have no result yet, in order
  abbrev pub outstanding_commands : ℕ → Journal → List Command
  outstanding_commands device journal = filter (is_outstanding journal) (commands agent device journal)

  -- a result of the device is still to come
  abbrev pub lacks_result : Journal → ℕ → Bool
  lacks_result journal device = not (is_empty (outstanding_commands device journal))

  -- a result is still to come
  abbrev pub lacks_results : Journal → Bool
  lacks_results journal = list_any (lacks_result journal) (devices agent)

  -- a result is still to come of a device that is open
  abbrev pub may_be_answered : Journal → Bool
  may_be_answered journal = list_any (λ d. is_open d journal && lacks_result journal d) (devices agent)

  -- those whose results the program waits for
  abbrev pub held_commands : ℕ → Journal → List Command
  held_commands device journal = filter (λ c. is_held agent c.action) (outstanding_commands device journal)

  -- the program waits for a result of the device
  abbrev pub is_waiting_for : Journal → ℕ → Bool
  is_waiting_for journal device = not (is_empty (held_commands device journal))

  -- the program waits for no result
  abbrev pub is_settled : Journal → Bool
  is_settled journal = not (list_any (is_waiting_for journal) (devices agent))

  -- the last entry of the device is a Rest that has taken all its commands
  abbrev pub is_at_rest : Journal → ℕ → Bool
  is_at_rest journal device =
      let rests = is_rest_after (length (commands agent device journal)) in
      option_map_or rests (last_of (entries_by device journal)) false

  -- each device is closed or at rest
  abbrev pub is_quiet : Journal → Bool
  is_quiet journal = list_all (λ d. not (is_open d journal) || is_at_rest journal d) (devices agent)
