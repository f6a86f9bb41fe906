-- The text of a journal, line by line.
use Rattle.std.specs.Prelude.{ℕ, pos, ◌+ℤ◌, not, ◌==◌, ◌&&◌, if◌then◌else◌, Option, List, [], ◌∷◌, ◌++◌, length, map, find, codes, decimal, slice_get, slice_index, option_map, option_and_then, unwrap_or}
use Rattle.std.specs.List.{flat_map, zip, join_by, enumerate_from}
use Rattle.std.specs.Option.{option_map_or}
use Rattle.std.specs.Fmt.{signed_decimal}
use Rattle.golog_tree.specs.declared.agent.Agent.{Agent}
use Rattle.golog_tree.specs.declared.agent.ActionItem.{ActionItem}
use Rattle.golog_tree.specs.declared.agent.FluentItem.{FluentItem}
use Rattle.golog_tree.specs.declared.agent.SortItem.{SortItem}
use Rattle.golog_tree.specs.declared.agent.SortItem.TheVariants.{Range, Listed}
use Rattle.golog_tree.specs.declared.prog.Label.{Label}
use Rattle.golog_tree.specs.declared.prog.Label.TheVariants.{Quiet, Do as Doing}
use Rattle.golog_semantics.specs.declared.journal.Entry.{Entry}
use Rattle.golog_semantics.specs.declared.journal.Entry.TheVariants.{Do, Test, Exo, Sense, Rest, Close, End}
use Rattle.golog_semantics.specs.declared.journal.Reason.{Reason}
use Rattle.golog_semantics.specs.declared.journal.Reason.TheVariants.{Ended, Bad, Full, Late, Stopped, Refused}
use Rattle.golog_semantics.specs.declared.journal.Answer.{Answer}
use Rattle.golog_semantics.specs.declared.journal.Answer.TheVariants.{Done, Stuck, Unknown, Depth, Fuel, Unanswered, Full as AnswerFull, Deep, Memory}
use Rattle.golog_semantics.specs.declared.journal.PlacedRun.{PlacedRun}
use Rattle.golog_semantics.specs.declared.journal.Report.{Report}
use Rattle.golog_semantics.specs.Truth.{Values, is_known}
use Rattle.golog_semantics.specs.Values.{Ground, ground_actions, ground_fluents, fluent_sort}
use Rattle.golog_semantics.specs.Journal.{Journal, device_of}
use Rattle.golog_semantics.specs.Progress.{values_after}

-- a list of bytes
abbrev pub Text : Type 0
Text = List ℕ

-- the word for a reason
abbrev pub reason_text : Reason → Text
reason_text Ended = codes "ended"
reason_text Bad = codes "bad"
reason_text Full = codes "full"
reason_text Late = codes "late"
reason_text Stopped = codes "stopped"
reason_text Refused = codes "refused"

-- the word for an answer
abbrev pub answer_text : Answer → Text
answer_text Done = codes "done"
answer_text Stuck = codes "stuck"
answer_text Unknown = codes "unknown"
answer_text Depth = codes "depth"
answer_text Fuel = codes "fuel"
answer_text Unanswered = codes "unanswered"
answer_text AnswerFull = codes "full"
answer_text Deep = codes "deep"
answer_text Memory = codes "memory"

-- the constant of a sort at a position
abbrev pub constant_in : SortItem → ℕ → Text
constant_in (Range name low high) value = signed_decimal (low +ℤ pos value)
constant_in (Listed name constants) value = unwrap_or (slice_get constants value) []

-- arguments in brackets, or nothing where there are none
abbrev pub in_brackets : List Text → Text
in_brackets [] = []
in_brackets args = codes "(" ++ join_by (λ a. a) (codes ",") args ++ codes ")"

-- what is said at each place, given the entries before it
abbrev pub at_each : {A : Type 0} → (Journal → Entry → A) → Journal → Journal → List A
at_each say before [] = []
at_each say before (e ∷ entries) = say before e ∷ at_each say (before ++ e ∷ []) entries

-- the run that begins at a place
abbrev pub run_at : List PlacedRun → ℕ → Option (List Label)
run_at runs place = option_map (λ r. r.labels) (find (λ r. r.place == place) runs)

module _ (agent : Agent) where
  -- the text of a constant of a sort
  abbrev pub constant_text : ℕ → ℕ → Text
  constant_text sort value = option_map_or (λ item. constant_in item value) (slice_get agent.sorts sort) []

  -- arguments of these sorts, in brackets
  abbrev pub args_text : List ℕ → List ℕ → Text
  args_text sorts args = in_brackets (map (λ at. constant_text at.0 at.1) (zip sorts args))

  -- the name of an item and the arguments
  abbrev pub ground_text : ActionItem → Ground → Text
  ground_text item at = item.name ++ args_text item.args at.1

  -- the name of a fluent and the arguments
  abbrev pub fluent_text_at : FluentItem → Ground → Text
  fluent_text_at item at = item.name ++ args_text item.args at.1

  -- the text of a ground action, as `up` or `move(a,3)`
  abbrev pub action_text : ℕ → Text
  action_text action =
      let item_at = λ (at : Ground). slice_get agent.actions at.0 in
      let at_action = slice_get (ground_actions agent) action in
      unwrap_or (option_and_then (λ at. option_map (λ item. ground_text item at) (item_at at)) at_action) []

  -- the text of a ground fluent, as `light` or `at(a,3)`
  abbrev pub fluent_text : ℕ → Text
  fluent_text fluent =
      let item_at = λ (at : Ground). slice_get agent.fluents at.0 in
      let at_fluent = slice_get (ground_fluents agent) fluent in
      unwrap_or (option_and_then (λ at. option_map (λ item. fluent_text_at item at) (item_at at)) at_fluent) []

  -- the name of a device
  abbrev pub device_text : ℕ → Text
  device_text device = unwrap_or (slice_get agent.devices device) []

  -- the text of a value of a ground fluent
  abbrev pub value_text : ℕ → ℕ → Text
  value_text fluent value = constant_text (fluent_sort agent fluent) value

  -- a step within a run: its action, or `-` for a test
  abbrev pub label_text : Label → Text
  label_text Quiet = codes "-"
  label_text (Doing action) = action_text action

  -- the run that a step begins, where it begins one
  abbrev pub run_text : Option (List Label) → Text
  run_text run = option_map_or (λ labels. codes " run " ++ join_by label_text (codes "; ") labels) run []

  -- the device that an action is sent to, where it has one
  abbrev pub at_device : Option ℕ → Text
  at_device device = option_map_or (λ d. codes " @" ++ device_text d) device []

  -- the value known before, where it is another constant
  abbrev pub against_text : ℕ → ℕ → ℕ → Text
  against_text fluent old value =
      if is_known old && not (old == value) then codes " against " ++ value_text fluent old else []

  -- the text of an entry, given the values before it and the run that begins there
  abbrev pub body_text : Values → Option (List Label) → Entry → Text
  body_text values run (Do action) =
      codes "do " ++ action_text action ++ at_device (device_of agent action) ++ run_text run
  body_text values run Test = codes "test" ++ run_text run
  body_text values run (Exo poster action) =
      codes "exo " ++ device_text poster ++ codes " " ++ action_text action
  body_text values run (Sense poster place fluent value) =
      codes "sense " ++ device_text poster ++ codes " " ++ decimal place
      ++ codes " " ++ value_text fluent value
      ++ against_text fluent (slice_index values fluent) value
  body_text values run (Rest poster taken) = codes "rest " ++ device_text poster ++ codes " " ++ decimal taken
  body_text values run (Close poster reason taken) =
      codes "close " ++ device_text poster ++ codes " " ++ reason_text reason ++ codes " " ++ decimal taken
  body_text values run (End answer) = codes "end " ++ answer_text answer

  -- the line of an entry, without its line feed
  abbrev pub line_text : List PlacedRun → Journal → Entry → Text
  line_text runs before e =
      let run = run_at runs (length before) in
      decimal (length before) ++ codes " " ++ body_text (values_after agent before) run e

  -- the lines of a report, in order
  abbrev pub lines_of : Report → List Text
  lines_of report = at_each (line_text report.runs) [] report.entries

  -- a line with its line feed
  abbrev pub with_line_feed : Text → Text
  with_line_feed line = line ++ 10 ∷ []

  -- a value of a ground fluent that a journal starts from, or that it is unknown
  abbrev pub start_text : ℕ → ℕ → Text
  start_text fluent value = if is_known value then value_text fluent value else codes "unknown"

  -- the line of a ground fluent and the value that a journal starts from, without its line feed
  abbrev pub start_line : ℕ × ℕ → Text
  start_line (fluent, value) = codes "start " ++ fluent_text fluent ++ codes " " ++ start_text fluent value

  -- the lines of a head: the version, the values that the journal starts from, and where its entries begin
  abbrev pub head_lines : Values → List Text
  head_lines values =
      codes "golog 2" ∷ map start_line (enumerate_from 0 values) ++ codes "begin" ∷ []

  -- the text of a head
  unfoldable pub head_text : Values → Text
  head_text values = flat_map with_line_feed (head_lines values)

  -- the text of the entries of a report
  unfoldable pub report_text : Report → Text
  report_text report = flat_map with_line_feed (lines_of report)
