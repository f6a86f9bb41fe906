-- What a text is read as, by whether it begins with the first line of a head.
use Rattle.std.proofs.Common.{◌≡◌, ℕ, ◌≤◌, ◌+◌, Option, Some, None, Result, Ok, Err, List, [], length, sym, ap, ◌∙◌, subst, arith}
use Rattle.std.specs.Option.{option_map_or}
use Rattle.golog_rows.specs.Reading.{Reading, outcome_behind}
use Rattle.golog_rows.specs.Answers.{IfRefused}
use Rattle.golog_tree.specs.declared.agent.Agent.{Agent}
use Rattle.golog_semantics.specs.declared.journal.Report.{Report}
use Rattle.golog_semantics.specs.Reports.{place_limit}
use Rattle.golog_semantics.specs.Text.{Text}
use Rattle.golog_semantics.specs.Truth.{Values}
use Rattle.golog_semantics.specs.Values.{ground_fluents}
use Rattle.golog_reports.specs.declared.fault.TextFault.{TextFault}
use Rattle.golog_reports.specs.Answers.{Answers, code_at}
use Rattle.golog_reports.specs.Moved.{moved, moved_outcome, moved_place}
use Rattle.golog_reports.specs.Reads.{empty_report, entries_read, head_from, headed_report, journal_from, journal_of, lines_in, plain_report, version_line}
use Rattle.golog_reports.specs.Said.{behind}
use Rattle.golog_reports.proofs.Within.{refusal-within}

-- what is answered goes by the outcome
pub answers_by : {A : Type 0} (result : Result A TextFault) (one other : Reading A) → one.outcome ≡ other.outcome → Answers result one → Answers result other
answers_by (Ok x) one other e h = sym e ∙ h
answers_by {A} (Err fault) one other e h = subst (λ (o : Result A (ℕ × ℕ)). IfRefused (code_at fault) (λ code at. o ≡ Err (code, at))) e h

-- a refusal of lines that stand further on
module _ {A : Type 0} (n : ℕ) (reading : Reading A) where
  moved-refusal : (refusal : Option (ℕ × ℕ)) → IfRefused refusal (λ code at. reading.outcome ≡ Err (code, at))
      → IfRefused (moved_place n refusal) (λ code at. moved_outcome n reading.outcome ≡ Err (code, at))
  moved-refusal None h = tt
  moved-refusal (Some refusal) h = ap (moved_outcome n) h

  pub moved_answer : (fault new : TextFault) → code_at new ≡ moved_place n (code_at fault) → Answers {A = A} (Err fault) reading → Answers {A = A} (Err new) (moved n reading)
  moved_answer fault new e h =
      subst (λ (o : Option (ℕ × ℕ)). IfRefused o (λ code at. moved_outcome n reading.outcome ≡ Err (code, at))) (sym e) (moved-refusal (code_at fault) h)

module _ (agent : Agent) where
  -- where the lines of entries are refused
  pub place-within : (start : Option Values) (bytes : Text) (fault : TextFault) → Answers {A = Report} (Err fault) (journal_from agent (empty_report start) (lines_in bytes))
      → IfRefused (code_at fault) (λ code at. at ≤ place_limit + 1)
  place-within start bytes fault h = refusal-within agent (empty_report start) (lines_in bytes) (code_at fault) (omega arith) h

  -- a text behind the first line of a head
  module _ (text : Text) where
    abbrev head : Reading (Values × Text)
    head = head_from agent (length (ground_fluents agent)) [] text

    abbrev next : Values × Text → Reading Report
    next said = entries_read agent said.0 said.1

    pub headed_on : (values : Values) (rest : Text) → head.outcome ≡ Ok (values, rest) → (entries_read agent values rest).outcome ≡ (headed_report agent text).outcome
    unfolding headed_report
    headed_on values rest e = sym (ap (λ o. outcome_behind o next) e)

    pub headed_refused : (refusal : Option (ℕ × ℕ)) → IfRefused refusal (λ code at. head.outcome ≡ Err (code, at)) → IfRefused refusal (λ code at. (headed_report agent text).outcome ≡ Err (code, at))
    unfolding headed_report
    headed_refused None e = tt
    headed_refused (Some refusal) e = ap (λ o. outcome_behind o next) e

  module _ (bytes : Text) where
    pub with_head : (text : Text) → behind version_line bytes ≡ Some text → (headed_report agent text).outcome ≡ (journal_of agent bytes).outcome
    unfolding journal_of
    with_head text e = ap (λ o. (option_map_or (headed_report agent) o (plain_report agent bytes)).outcome) (sym e)

    pub without_head : behind version_line bytes ≡ None → (plain_report agent bytes).outcome ≡ (journal_of agent bytes).outcome
    unfolding journal_of
    without_head e = ap (λ o. (option_map_or (headed_report agent) o (plain_report agent bytes)).outcome) (sym e)
