-- The journal of devices that follow scripts, served in turn. (This project's own.)
use Rattle.std.specs.Prelude.{ℕ, zero, suc, ◌+◌, if◌then◌else◌, Option, Some, None, List, [], ◌∷◌, ◌++◌, length, find, codes, slice_get}
use Rattle.std.specs.List.{range_with_len}
use Rattle.std.specs.Option.{option_map_or}
use Rattle.golog_tree.specs.declared.agent.Agent.{Agent}
use Rattle.golog_tree.specs.declared.prog.Label.{Label}
use Rattle.golog_tree.specs.declared.prog.Label.TheVariants.{Quiet, Do as Doing}
use Rattle.golog_semantics.specs.declared.Mode.TheVariants.{Must}
use Rattle.golog_semantics.specs.declared.search.Move.{Move}
use Rattle.golog_semantics.specs.declared.journal.Entry.{Entry}
use Rattle.golog_semantics.specs.declared.journal.Entry.TheVariants.{Do, Test, End}
use Rattle.golog_semantics.specs.declared.journal.Item.{Item}
use Rattle.golog_semantics.specs.declared.journal.Item.TheVariants as item
use Rattle.golog_tree.specs.Ground.{sort_size}
use Rattle.golog_semantics.specs.Values.{ground_actions, fluent_sort}
use Rattle.golog_semantics.specs.Same.{same_values}
use Rattle.golog_semantics.specs.Blocks.{moves}
use Rattle.golog_semantics.specs.Journal.{Journal, Command, fluent_sensed, commands, is_open, is_at_rest, has_end}
use Rattle.golog_semantics.specs.Progress.{values_after, left_after}
use Rattle.golog_semantics.specs.Answer.{answer_after}
use Rattle.golog_semantics.specs.Text.{Text, action_text, value_text}
use Rattle.golog_semantics.specs.Online.{may_step}
use Rattle.golog_semantics.specs.Posts.{posted_entry}

-- a scripted device: what it has still to answer and to post, and how many commands it has taken
pub record Scripted : Type 0 where
  pub answers : List Text
  pub idle : List Text
  pub taken : ℕ

-- the journal so far, and the devices
pub record Stage : Type 0 where
  pub journal : Journal
  pub devices : List Scripted

-- How many rounds a run has. Each round before the last device is closed and the program has ended adds an
-- entry or takes a command, so nothing is added any more long before the last of these.
abbrev pub round_limit : ℕ
round_limit = 3000000

-- the entry for a step
abbrev pub entry_for : Label → Entry
entry_for Quiet = Test
entry_for (Doing action) = Do action

-- after the devices, the program has its turn
abbrev pub after_lead : (Journal → Journal) → Journal × List Scripted → Stage
after_lead made (journal, ds) = record { journal = made journal; devices = ds }

module _ (agent : Agent) where
  -- the number, among so many, whose text these bytes are
  abbrev pub number_of_text : (ℕ → Text) → ℕ → Text → Option ℕ
  number_of_text text count bytes = find (λ n. same_values (text n) bytes) (range_with_len 0 count)

  -- what the text of an action is posted as
  abbrev pub posted_action : Text → Item
  posted_action bytes =
      let count = length (ground_actions agent) in
      option_map_or item.Exo (number_of_text (action_text agent) count bytes) item.Unreadable

  -- what the text of an answer is posted as
  abbrev pub posted_value : ℕ → Text → Item
  posted_value fluent bytes =
      let count = sort_size agent (fluent_sort agent fluent) in
      option_map_or item.Value (number_of_text (value_text agent fluent) count bytes) item.Unreadable

  -- what the text of an idle item is posted as
  abbrev pub idle_item : Text → Item
  idle_item bytes =
      if same_values bytes (codes "rest") then item.Rest
      else (if same_values bytes (codes "close") then item.Close else posted_action bytes)

  module _ (journal : Journal) (device : ℕ) where
    -- the item is posted, and the device is left so
    abbrev pub posting : Scripted → Item → Journal × Scripted
    posting d i = (journal ++ posted_entry agent journal device d.taken i ∷ [], d)

    -- a sensing command is answered by the next answer, or by silence
    abbrev pub answering : Scripted → ℕ → List Text → Journal × Scripted
    answering d fluent [] = posting d item.Silent
    answering d fluent (a ∷ answers) = posting (record d { answers = answers }) (posted_value fluent a)

    -- a command is served; only a sensing one is answered
    abbrev pub after_service : Scripted → Option ℕ → Journal × Scripted
    after_service d None = (journal, d)
    after_service d (Some fluent) = answering d fluent d.answers

    -- without a command the next idle item is posted; a device with none left closes
    abbrev pub idling : Scripted → List Text → Journal × Scripted
    idling d [] = posting d item.Close
    idling d (t ∷ idle) = posting (record d { idle = idle }) (idle_item t)

    -- a turn, by the next command, where there is one
    abbrev pub turn_by : Scripted → Option Command → Journal × Scripted
    turn_by d (Some c) = after_service (record d { taken = d.taken + 1 }) (fluent_sensed agent c.action)
    turn_by d None =
        if has_end journal then posting d item.Stop
        else (if is_at_rest agent journal device then (journal, d) else idling d d.idle)

    -- one turn of an open device
    abbrev pub turn : Scripted → Journal × Scripted
    turn d = turn_by d (slice_get (commands agent device journal) d.taken)

  -- each open device in order has one turn
  abbrev pub turns_from : ℕ → Journal → List Scripted → Journal × List Scripted
  turns_from device journal [] = (journal, [])
  turns_from device journal (d ∷ ds) =
      let now = if is_open device journal then turn journal device d else (journal, d) in
      let others = turns_from (device + 1) now.0 ds in
      (others.0, now.1 ∷ others.1)

  -- the first of these steps is taken, where it may be
  abbrev pub step_by : Journal → List Move → Journal
  step_by journal [] = journal
  step_by journal (m ∷ ms) =
      if may_step agent journal (values_after agent journal) (left_after agent journal) m.label
      then journal ++ entry_for m.label ∷ [] else journal

  -- the end where there is an answer, or else the first certain step, or else nothing
  abbrev pub lead : Journal → Journal
  lead journal =
      if has_end journal then journal
      else
      let steps = moves agent (values_after agent journal) Must (left_after agent journal) in
      option_map_or (λ a. journal ++ End a ∷ []) (answer_after agent journal) (step_by journal steps)

  -- one turn of each open device, and then one of the program, which makes of a journal what `made` says
  abbrev pub round : (Journal → Journal) → Stage → Stage
  round made s = after_lead made (turns_from 0 s.journal s.devices)

  -- so many rounds
  abbrev pub rounds : (Journal → Journal) → ℕ → Stage → Stage
  rounds made zero s = s
  rounds made (suc n) s = rounds made n (round made s)

  -- the journal of these scripts
  unfoldable pub inline_journal : List Scripted → Journal
  inline_journal devices = (rounds lead round_limit (record { journal = []; devices = devices })).journal
