-- Online executions: the rules that each entry of a journal keeps, given the entries before it.
--
-- That a program commits to a step which is certain at the history so far, and that sensing and exogenous
-- actions stand in the history as they come, is online execution (De Giacomo and Levesque 1999; the IndiGolog
-- chapter, 2009). The rules on devices, on what is printed and on how a program ends are this project's own.
use Rattle.std.specs.Prelude.{◌≡◌, ℕ, Bool, true, false, not, ◌+◌, ◌==◌, nat_lt, nat_le, IsTrue, ◌&&◌, ◌||◌, if◌then◌else◌, Option, Some, None, List, [], ◌∷◌, ◌++◌, length, filter, take, slice_get}
use Rattle.std.specs.List.{list_any, list_all}
use Rattle.std.specs.Option.{option_map_or, option_or}
use Rattle.golog_tree.specs.declared.agent.Agent.{Agent}
use Rattle.golog_tree.specs.declared.prog.Prog.{Prog}
use Rattle.golog_tree.specs.declared.prog.Label.{Label}
use Rattle.golog_tree.specs.declared.prog.Label.TheVariants.{Quiet, Do as Doing}
use Rattle.golog_tree.specs.Nest.{nest}
use Rattle.golog_semantics.specs.declared.Mode.TheVariants.{Must}
use Rattle.golog_semantics.specs.declared.search.Move.{Move}
use Rattle.golog_semantics.specs.declared.journal.Entry.{Entry}
use Rattle.golog_semantics.specs.declared.journal.Entry.TheVariants.{Do, Test, Exo, Sense, Rest, Close, End}
use Rattle.golog_semantics.specs.declared.journal.Reason.{Reason}
use Rattle.golog_semantics.specs.declared.journal.Reason.TheVariants.{Ended, Bad, Full, Late, Stopped, Refused}
use Rattle.golog_semantics.specs.declared.journal.Answer.{Answer}
use Rattle.golog_semantics.specs.declared.journal.Answer.TheVariants.{Fuel, Memory}
use Rattle.golog_semantics.specs.declared.journal.Why.{Why}
use Rattle.golog_semantics.specs.declared.journal.Why.TheVariants as why
use Rattle.golog_semantics.specs.declared.journal.PlacedRun.{PlacedRun}
use Rattle.golog_semantics.specs.declared.journal.Report.{Report}
use Rattle.golog_semantics.specs.contracts.journal.Answer as answer
use Rattle.golog_tree.specs.Ground.{sort_size}
use Rattle.golog_semantics.specs.Truth.{Values}
use Rattle.golog_semantics.specs.Values.{fluent_sort}
use Rattle.golog_semantics.specs.Ways.{is_empty}
use Rattle.golog_semantics.specs.Search.{final, nest_limit}
use Rattle.golog_semantics.specs.Blocks.{moves}
use Rattle.golog_semantics.specs.Heavy.{heavy}
use Rattle.golog_semantics.specs.Same.{same_code, same_label, same_run, same_values}
use Rattle.golog_semantics.specs.Journal.{Journal, Command, devices, may_post, fluent_sensed, commands, is_outstanding, outstanding_commands, poster_of, entries_by, is_close, has_end, is_open, count, limit, is_full, is_settled}
use Rattle.golog_semantics.specs.Progress.{values_after, left_after}
use Rattle.golog_semantics.specs.Answer.{is_unanswered, answer_at}
use Rattle.golog_semantics.specs.Text.{Text, at_each, run_at, line_text}

-- this is the answer
abbrev pub same_answer : Option Answer → Answer → Bool
same_answer None a = false
same_answer (Some b) a = same_code (answer.the_row.coded.code b) (answer.the_row.coded.code a)

-- this line is given
abbrev pub same_line : Option Text → Text → Bool
same_line given line = option_map_or (λ l. same_values l line) given false

-- the label of a step
abbrev pub label_of : Entry → Option Label
label_of (Do action) = Some (Doing action)
label_of Test = Some Quiet
label_of _ = None

module _ (agent : Agent) (before : Journal) where
  -- after the end only devices are closed
  abbrev pub keeps_after : Entry → Bool
  keeps_after e = not (has_end before) || is_close e

  -- an exogenous action is declared for its device
  abbrev pub is_declared : Entry → Bool
  is_declared (Exo poster action) = may_post agent poster action
  is_declared _ = true

  -- a device posts what is declared for it, while it is open
  abbrev pub keeps_poster : Entry → Bool
  keeps_poster e = is_declared e && option_map_or (λ d. is_open d before) (poster_of e) true

  -- the command at a place, and the fluent that it senses
  abbrev pub is_result : ℕ → ℕ → Command → Bool
  is_result place fluent c =
      c.place == place && option_map_or (λ f. f == fluent) (fluent_sensed agent c.action) false

  -- a result is that of the first outstanding command of its device, and a constant of the fluent's sort
  abbrev pub keeps_place : Entry → Bool
  keeps_place (Sense poster place fluent value) =
      option_map_or (is_result place fluent) (slice_get (outstanding_commands agent poster before) 0) false
      && nat_lt value (sort_size agent (fluent_sort agent fluent))
  keeps_place _ = true

  -- how many commands its device had taken, as far as an entry tells
  abbrev pub told_taken : Entry → ℕ
  told_taken (Sense poster place fluent value) =
      1 + length (filter (λ c. nat_lt c.place place) (commands agent poster before))
  told_taken (Rest poster taken) = taken
  told_taken _ = 0

  -- the device has so many commands, and no earlier entry tells of more
  abbrev pub may_have_taken : ℕ → ℕ → Bool
  may_have_taken device taken =
      nat_le taken (length (commands agent device before))
      && list_all (λ e. nat_le (told_taken e) taken) (entries_by device before)

  -- the commands taken are some of the device's, and no fewer than it had taken before; at a Rest, the
  -- results of those taken have come
  abbrev pub keeps_taken : Entry → Bool
  keeps_taken (Rest poster taken) =
      may_have_taken poster taken
      && not (list_any (is_outstanding agent before) (take taken (commands agent poster before)))
  keeps_taken (Close poster reason taken) = may_have_taken poster taken
  keeps_taken _ = true

  -- the label of the first of these steps, whose left does not nest too deep
  abbrev pub is_first : Label → List Move → Bool
  is_first label [] = false
  is_first label (m ∷ ms) = same_label label m.label && nat_le (nest m.left) nest_limit

  -- no command is held, the program may not end, the journal takes one more entry, and this is the first step
  abbrev pub may_step : Values → Prog → Label → Bool
  may_step values p label =
      is_settled agent before && not (final agent values Must p) && nat_lt (count before) limit
      && is_first label (moves agent values Must p)

  -- a step is the first certain one of the program left, at the values of the whole history
  abbrev pub keeps_step : Values → Prog → Entry → Bool
  keeps_step values p e = option_map_or (may_step values p) (label_of e) true

  -- the run that the first of these steps begins
  abbrev pub run_of : List Move → Option (List Label)
  run_of [] = None
  run_of (m ∷ ms) = m.run

  -- the run that a step begins
  abbrev pub run_begun : Values → Prog → Entry → Option (List Label)
  run_begun values p e = option_map_or (λ label. run_of (moves agent values Must p)) (label_of e) None

  -- a run is printed exactly where a step begins one
  abbrev pub keeps_run : Option (List Label) → Values → Prog → Entry → Bool
  keeps_run printed values p e = same_run printed (run_begun values p e)

  -- The program ends with its answer, or for want of memory. It may end for want of fuel where it is heavy,
  -- the journal is not full, and no command is held.
  abbrev pub may_end : Values → Prog → Answer → Bool
  may_end values p Memory = true
  may_end values p Fuel =
      not (is_full before) && not (is_unanswered agent before) && is_settled agent before
      && heavy agent values p
  may_end values p a = same_answer (answer_at agent before values p) a

  -- the end carries an answer that the program may end with
  abbrev pub keeps_answer : Values → Prog → Entry → Bool
  keeps_answer values p (End a) = may_end values p a
  keeps_answer values p _ = true

  -- A device may be closed for this reason: by itself at any time; for a bad item before the end; for a full
  -- journal where it is full, before the end; for a late item after the end; when stopped, after the end with
  -- all commands taken; and when it refuses its script, before all else.
  abbrev pub may_close : ℕ → ℕ → Reason → Bool
  may_close device taken Ended = true
  may_close device taken Bad = not (has_end before)
  may_close device taken Full = is_full before && not (has_end before)
  may_close device taken Late = has_end before
  may_close device taken Stopped = has_end before && taken == length (commands agent device before)
  may_close device taken Refused =
      taken == 0 && is_empty (entries_by device before) && is_empty (commands agent device before)

  -- a device is closed for a reason that may be
  abbrev pub keeps_close : Entry → Bool
  keeps_close (Close poster reason taken) = may_close poster taken reason
  keeps_close _ = true

  -- the line is the text of its entry, where lines are given
  abbrev pub keeps_text : List PlacedRun → Option (List Text) → Entry → Bool
  keeps_text runs None e = true
  keeps_text runs (Some lines) e = same_line (slice_get lines (length before)) (line_text agent runs before e)

  -- the entry keeps the rules, with these runs printed
  pub record Keeps (runs : List PlacedRun) (e : Entry) : Type 0 where
    pub after : IsTrue (keeps_after e)
    pub poster : IsTrue (keeps_poster e)
    pub place : IsTrue (keeps_place e)
    pub taken : IsTrue (keeps_taken e)
    pub step : IsTrue (keeps_step (values_after agent before) (left_after agent before) e)
    pub run :
        IsTrue
        (keeps_run (run_at runs (length before)) (values_after agent before) (left_after agent before) e)
    pub answer : IsTrue (keeps_answer (values_after agent before) (left_after agent before) e)
    pub close : IsTrue (keeps_close e)

  -- the rules in their order, with the values before the entry and the program left there
  abbrev pub rules_at : List PlacedRun → Option (List Text) → Values → Prog → Entry → List (Why × Bool)
  rules_at runs lines values p e =
      ((why.After, keeps_after e)
      ∷ (why.Poster, keeps_poster e)
      ∷ (why.Place, keeps_place e)
      ∷ (why.Taken, keeps_taken e)
      ∷ (why.Step, keeps_step values p e)
      ∷ (why.Run, keeps_run (run_at runs (length before)) values p e)
      ∷ (why.Answer, keeps_answer values p e)
      ∷ (why.Close, keeps_close e)
      ∷ (why.Text, keeps_text runs lines e)
      ∷ [])

-- the program has ended and each device is closed
abbrev pub is_whole : Agent → Journal → Bool
is_whole agent journal = has_end journal && not (list_any (λ d. is_open d journal) (devices agent))

-- wherever an entry stands, it keeps the rules, given the entries before it
abbrev pub EachKeeps : Agent → Report → Type 0
EachKeeps agent report =
    (before : Journal) (e : Entry) (later : Journal) → report.entries ≡ before ++ e ∷ later
    → Keeps agent before report.runs e

-- an online execution of the agent's program
pub record IsOnline (agent : Agent) (report : Report) : Type 0 where
  pub entries : EachKeeps agent report
  pub whole : IsTrue (is_whole agent report.entries)

-- the beginning of one
pub record IsOnlineSoFar (agent : Agent) (report : Report) : Type 0 where
  pub entries : EachKeeps agent report

-- a place and the first rule that fails there
pub record Fault : Type 0 where
  pub place : ℕ
  pub why : Why

-- the first of these rules that fails
abbrev pub fault_among : ℕ → List (Why × Bool) → Option Fault
fault_among place [] = None
fault_among place ((w, keeps) ∷ rules) =
    if keeps then fault_among place rules else Some (record { place = place; why = w })

-- the first that is there
abbrev pub first_some : {A : Type 0} → List (Option A) → Option A
first_some [] = None
first_some (o ∷ os) = option_or o (first_some os)

module _ (agent : Agent) (lines : Option (List Text)) where
  -- the first rule that an entry breaks, given the entries before it
  abbrev pub fault_at : List PlacedRun → Journal → Entry → Option Fault
  fault_at runs before e =
      let rules = rules_at agent before runs lines (values_after agent before) (left_after agent before) e in
      fault_among (length before) rules

  -- the first place where an entry breaks a rule
  unfoldable pub first_fault : Report → Option Fault
  first_fault report = first_some (at_each (fault_at report.runs) [] report.entries)

  -- a journal that is not whole breaks the last rule, after its last entry
  abbrev pub too_short : Journal → Option Fault
  too_short journal =
      if is_whole agent journal then None else Some (record { place = length journal; why = why.Short })

  -- the first fault of a report, read from these lines where they are given
  unfoldable pub fault_of : Report → Option Fault
  fault_of report = option_or (first_fault report) (too_short report.entries)
