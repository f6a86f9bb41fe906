-- The entry that is put in for what a device posts. (This project's own.)
use Rattle.std.specs.Prelude.{ℕ, Bool, true, false, not, ◌-◌, ◌==◌, nat_lt, ◌||◌, if◌then◌else◌, Option, Some, None, is_some, slice_get}
use Rattle.std.specs.Option.{option_map_or}
use Rattle.golog_tree.specs.declared.agent.Agent.{Agent}
use Rattle.golog_semantics.specs.declared.journal.Entry.{Entry}
use Rattle.golog_semantics.specs.declared.journal.Entry.TheVariants as entry
use Rattle.golog_semantics.specs.declared.journal.Item.{Item}
use Rattle.golog_semantics.specs.declared.journal.Item.TheVariants.{Exo, Value, Close, Unreadable, Silent, Stop, Refused}
use Rattle.golog_semantics.specs.declared.journal.Reason.{Reason}
use Rattle.golog_semantics.specs.declared.journal.Reason.TheVariants as reason
use Rattle.golog_tree.specs.Ground.{sort_size}
use Rattle.golog_semantics.specs.Values.{fluent_sort}
use Rattle.golog_semantics.specs.Journal.{Journal, Command, may_post, fluent_sensed, commands, is_outstanding, has_end, is_full}

module _ (agent : Agent) (journal : Journal) (device taken : ℕ) where
  -- this command, where its result is still to come
  abbrev pub awaited_by : Option Command → Option Command
  awaited_by None = None
  awaited_by (Some c) = if is_outstanding agent journal c then Some c else None

  -- the last command taken, where its result is still to come
  abbrev pub awaited_command : Option Command
  awaited_command = if taken == 0 then None else awaited_by (slice_get (commands agent device journal) (taken - 1))

  -- a constant of the sort of the fluent that the command senses
  abbrev pub is_value_for : ℕ → Command → Bool
  is_value_for value c =
      option_map_or (λ f. nat_lt value (sort_size agent (fluent_sort agent f))) (fluent_sensed agent c.action) false

  -- The item is not one that the device may post now: it cannot be read, or nothing came; it is an action
  -- that is not declared for the device; it is a value that no command awaits, or of another sort; or a
  -- command awaits a value and the item is none.
  abbrev pub is_bad : Item → Bool
  is_bad Unreadable = true
  is_bad Silent = true
  is_bad (Exo action) = not (may_post agent device action) || is_some awaited_command
  is_bad (Value value) = not (option_map_or (is_value_for value) awaited_command false)
  is_bad _ = is_some awaited_command

  -- why an item other than an end of the device is refused
  abbrev pub later_reason : Item → Option Reason
  later_reason item =
      if has_end journal then Some reason.Late
      else (if is_full journal then Some reason.Full else (if is_bad item then Some reason.Bad else None))

  -- why the device is closed in place of the item, if it is
  abbrev pub closing : Item → Option Reason
  closing Stop = Some reason.Stopped
  closing Refused = Some reason.Refused
  closing Close = Some reason.Ended
  closing item = later_reason item

  -- the entry for a result of the command
  abbrev pub result_of : ℕ → Command → Entry
  result_of value c = entry.Sense device c.place (option_map_or (λ f. f) (fluent_sensed agent c.action) 0) value

  -- the entry for an item that is not refused
  abbrev pub entry_of : Item → Entry
  entry_of (Exo action) = entry.Exo device action
  entry_of (Value value) = option_map_or (result_of value) awaited_command (entry.Rest device taken)
  entry_of _ = entry.Rest device taken

  -- the entry for an item, or the Close in its place
  abbrev pub posted_entry : Item → Entry
  posted_entry item = option_map_or (λ r. entry.Close device r taken) (closing item) (entry_of item)
