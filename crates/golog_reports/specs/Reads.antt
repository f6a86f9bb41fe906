-- The report that a journal's text says, or its first refusal, line by line.
use Rattle.std.specs.Prelude.{ℕ, zero, suc, ◌+◌, ◌&&◌, nat_eq, nat_le, Bool, true, false, not, List, [], ◌∷◌, ◌++◌, Option, None, Some, is_some, length, find, drop, position, slice_get, bytes_eq, codes, if◌then◌else◌, option_map, option_and_then}
use Rattle.std.specs.List.{list_any, range_with_len}
use Rattle.std.specs.Option.{option_map_or}
use Rattle.golog_base.specs.Numbers.{amount}
use Rattle.golog_rows.specs.Reading.{Reading, gives, row, found, ◌>>=◌}
use Rattle.golog_tree.specs.declared.agent.Agent.{Agent}
use Rattle.golog_tree.specs.declared.prog.Label.{Label}
use Rattle.golog_tree.specs.declared.prog.Label.TheVariants.{Quiet, Do as Doing}
use Rattle.golog_tree.specs.Ground.{action_args, ground_count, sort_size}
use Rattle.golog_semantics.specs.declared.journal.Entry.{Entry}
use Rattle.golog_semantics.specs.declared.journal.Entry.TheVariants.{Do, Test, Exo, Sense, Rest, Close, End}
use Rattle.golog_semantics.specs.declared.journal.Report.{Report}
use Rattle.golog_semantics.specs.InlineText.{placed_run}
use Rattle.golog_semantics.specs.Journal.{Journal, device_of, is_carried_by, fluent_sensed}
use Rattle.golog_semantics.specs.Reports.{is_own, is_exogenous, place_limit}
use Rattle.golog_semantics.specs.Text.{Text, action_text, constant_text, device_text, fluent_text}
use Rattle.golog_semantics.specs.Truth.{Values, unknown}
use Rattle.golog_semantics.specs.Values.{fluent_sort, ground_fluents}
use Rattle.golog_semantics.specs.Verdicts.{head_length}
use Rattle.golog_semantics.specs.Ways.{is_empty}
use Rattle.golog_reports.specs.Codes.{NO_BODY, MISPLACED, NOT_OWN, NO_RESULT, HEAD}
use Rattle.golog_reports.specs.declared.reading.Line.{Line}
use Rattle.golog_reports.specs.Forms.{cut, parts}
use Rattle.golog_reports.specs.Moved.{moved}
use Rattle.golog_reports.specs.Said.{Said, Body, SaysDo, SaysTest, SaysExo, SaysSense, SaysRest, SaysClose, SaysEnd, behind, if_so, said_in}

-- The lines of the bytes: what stands before each line feed. The last one is what stands behind the last line
-- feed, so it is empty where each line has its line feed.
abbrev pub lines_in : Text → List Text
lines_in bytes = parts 10 bytes

-- ---- 51: numbers

-- digits that spell a number that a line may have
abbrev pub is_small : Text → Bool
is_small digits = nat_le (amount digits) place_limit

-- the numbers in a body are not too great
abbrev pub has_small : Body → Bool
has_small (SaysSense device place value old) = is_small place
has_small (SaysRest device taken) = is_small taken
has_small (SaysClose device reason taken) = is_small taken
has_small _ = true

-- the line's number is its place, and its numbers are not too great
unfoldable pub is_in_place : ℕ → Said → Bool
is_in_place place said =
    is_small said.number && nat_eq (amount said.number) place && has_small said.body

-- ---- 52: the agent's things

-- the first of so many things that has this text
unfoldable pub first_named : ℕ → (ℕ → Text) → Text → Option ℕ
first_named count text_of text = find (λ n. bytes_eq (text_of n) text) (range_with_len 0 count)

-- an entry and the run that it begins, or a result whose command and values are still words
pub data Named : Type 0 where
  Told : (entry : Entry) (run : Option (List Label)) → Named
  Result : (device place : ℕ) (value : Text) (old : Option Text) → Named

module _ (agent : Agent) where
  -- the ground action of this text
  abbrev pub action_named : Text → Option ℕ
  action_named = first_named (ground_count agent (action_args agent)) (action_text agent)

  -- the device of this name
  abbrev pub device_named : Text → Option ℕ
  device_named text = position (λ name. bytes_eq name text) agent.devices

  -- the constant of this text in a sort
  abbrev pub constant_named : ℕ → Text → Option ℕ
  constant_named sort = first_named (sort_size agent sort) (constant_text agent sort)

  -- the text is a constant of some sort
  unfoldable pub is_agents_constant : Text → Bool
  is_agents_constant text =
      list_any (λ sort. is_some (constant_named sort text)) (range_with_len 0 (length agent.sorts))

  -- the action of the program that has this text
  unfoldable pub own_action : Text → Option ℕ
  own_action text = option_and_then (λ action. if_so (is_own agent action) (Some action)) (action_named text)

  -- the exogenous action of this text
  unfoldable pub posted_action : Text → Option ℕ
  posted_action text = option_and_then (λ action. if_so (is_exogenous agent action) (Some action)) (action_named text)

  -- the label of this text
  unfoldable pub label_named : Text → Option Label
  label_named text = if bytes_eq text (codes "-") then Some Quiet else option_map Doing (own_action text)

  -- the labels of these steps, behind those so far
  abbrev pub labels_named : List Label → List Text → Option (List Label)
  labels_named labels [] = Some labels
  labels_named labels (step ∷ steps) =
      option_and_then (λ label. labels_named (labels ++ label ∷ []) steps) (label_named (drop 1 step))

  -- the labels of a run, if there is one
  unfoldable pub run_named : Option Text → Option (Option (List Label))
  run_named None = Some None
  run_named (Some run) = option_map Some (labels_named [] (parts 59 run))

  -- the device of an action is the one of this name, and there is none where none is named
  unfoldable pub is_sent_to : ℕ → Option Text → Bool
  is_sent_to action None = not (is_some (device_of agent action))
  is_sent_to action (Some name) = option_map_or (λ device. bytes_eq (device_text agent device) name) (device_of agent action) false

  unfoldable pub do_named : Text → Option Text → Option Text → Option Named
  do_named text device run =
      option_and_then (λ action. if_so (is_sent_to action device) (option_map (Told (Do action)) (run_named run)))
      (own_action text)

  unfoldable pub result_named : Text → Text → Text → Option Text → Option Named
  result_named name place value old =
      option_and_then
      (λ device. if_so (is_agents_constant value && option_map_or is_agents_constant old true)
      (Some (Result device (amount place) value old)))
      (device_named name)

  unfoldable pub exo_named : Text → Text → Option Named
  exo_named name text =
      option_and_then (λ device. option_map (λ action. Told (Exo device action) None) (posted_action text))
      (device_named name)

  -- what a body says of the agent's things
  unfoldable pub named : Body → Option Named
  named (SaysDo action device run) = do_named action device run
  named (SaysTest run) = option_map (Told Test) (run_named run)
  named (SaysExo device action) = exo_named device action
  named (SaysSense device place value old) = result_named device place value old
  named (SaysRest device taken) = option_map (λ d. Told (Rest d (amount taken)) None) (device_named device)
  named (SaysClose device reason taken) =
      option_map (λ d. Told (Close d reason (amount taken)) None) (device_named device)
  named (SaysEnd answer) = Some (Told (End answer) None)

  -- ---- 53: results

  -- the fluent that an entry senses, where it is a command of this device
  unfoldable pub sensed_by_entry : ℕ → Entry → Option ℕ
  sensed_by_entry device (Do action) = if_so (is_carried_by agent device action) (fluent_sensed agent action)
  sensed_by_entry device _ = None

  -- the fluent that the command of this device at a place senses
  unfoldable pub sensed_at : Journal → ℕ → ℕ → Option ℕ
  sensed_at before device place = option_and_then (sensed_by_entry device) (slice_get before place)

  -- the value of a fluent that a text is, where the value known before is of its sort too
  unfoldable pub value_named : ℕ → Text → Option Text → Option ℕ
  value_named fluent value old =
      if_so (option_map_or (λ text. is_some (constant_named (fluent_sort agent fluent) text)) old true)
      (constant_named (fluent_sort agent fluent) value)

  -- the result of an earlier command
  unfoldable pub result_in : Journal → ℕ → ℕ → Text → Option Text → Option Entry
  result_in before device place value old =
      option_and_then (λ fluent. option_map (Sense device place fluent) (value_named fluent value old))
      (sensed_at before device place)

module _ (agent : Agent) (before : Journal) where
  -- the entry that is named, behind these
  unfoldable pub line_named : Named → Option Line
  line_named (Told entry run) = Some (record { entry = entry; run = run })
  line_named (Result device place value old) =
      option_map (λ entry. record { entry = entry; run = None }) (result_in agent before device place value old)

  -- what a line says behind these entries
  unfoldable pub line_said : Said → Reading Line
  line_said said =
      row (not (is_in_place (length before) said)) MISPLACED (length before)
      (found NOT_OWN (length before) (named agent said.body) >>= λ named.
      found NO_RESULT (length before) (line_named named))

  -- what a line that has its line feed says behind these entries
  unfoldable pub line_of : Text → Reading Line
  line_of text = found NO_BODY (length before) (said_in text) >>= line_said

-- a report and one more line
abbrev pub with_line : Report → Line → Report
with_line report line = record {
  entries = report.entries ++ line.entry ∷ [];
  runs = report.runs ++ placed_run (length report.entries) line.run;
  start = report.start;
}

module _ (agent : Agent) where
  -- the report that the lines behind those of a report say; the last has no line feed
  unfoldable pub journal_from : Report → List Text → Reading Report
  journal_from report [] = gives report
  journal_from report (last ∷ []) = row (not (is_empty last)) NO_BODY (length report.entries) (gives report)
  journal_from report (text ∷ next ∷ texts) =
      line_of agent report.entries text >>= λ line. journal_from (with_line report line) (next ∷ texts)

-- ---- 54: the head

-- a report without entries, which has this start
abbrev pub empty_report : Option Values → Report
empty_report start = record { entries = []; runs = []; start = start }

-- the first line of a head, with its line feed
abbrev pub version_line : Text
version_line = codes "golog 2" ++ 10 ∷ []

-- the last one
abbrev pub begin_line : Text
begin_line = codes "begin" ++ 10 ∷ []

-- the values, and what stands behind the last line
unfoldable pub begin_read : Values → Text → Reading (Values × Text)
begin_read values text =
    found HEAD (length values + 1) (option_map (λ rest. (values, rest)) (behind begin_line text))

module _ (agent : Agent) where
  -- the value of a ground fluent that a text is, or that it is unknown
  unfoldable pub start_named : ℕ → Text → Option ℕ
  start_named fluent text =
      if bytes_eq text (codes "unknown") then Some unknown else constant_named agent (fluent_sort agent fluent) text

  -- the value that the line of a ground fluent says
  unfoldable pub start_said : ℕ → Text → Option ℕ
  start_said fluent line =
      option_and_then (start_named fluent)
      (option_and_then (behind (codes " "))
      (option_and_then (behind (fluent_text agent fluent)) (behind (codes "start ") line)))

  -- the value that the first line of a text says, and what stands behind its line feed
  unfoldable pub start_in : ℕ → Text → Option (ℕ × Text)
  start_in fluent text =
      option_and_then (λ rest. option_map (λ value. (value, rest)) (start_said fluent (cut 10 text).0)) (cut 10 text).1

  -- the values so far with the one that the next line says, and what stands behind that line
  unfoldable pub start_read : Values → Text → Reading (Values × Text)
  start_read values text =
      found HEAD (length values + 1)
      (option_map (λ said. (values ++ said.0 ∷ [], said.1)) (start_in (length values) text))

  -- the values so far with those that so many lines say, and what stands behind the head
  unfoldable pub head_from : ℕ → Values → Text → Reading (Values × Text)
  head_from zero values text = begin_read values text
  head_from (suc more) values text = start_read values text >>= λ said. head_from more said.0 said.1

  -- the report that the lines behind a head with these values say; their refusals have the lines' numbers in the file
  unfoldable pub entries_read : Values → Text → Reading Report
  entries_read values text =
      moved (head_length agent) (journal_from agent (empty_report (Some values)) (lines_in text))

  -- the report that a text says whose first line, which is taken away, begins a head
  unfoldable pub headed_report : Text → Reading Report
  headed_report text = head_from (length (ground_fluents agent)) [] text >>= λ head. entries_read head.0 head.1

  -- the report that a text without a head says
  abbrev pub plain_report : Text → Reading Report
  plain_report text = journal_from agent (empty_report None) (lines_in text)

  -- the report that the text of a journal says, or its first refusal
  unfoldable pub journal_of : Text → Reading Report
  journal_of bytes = option_map_or headed_report (behind version_line bytes) (plain_report bytes)
