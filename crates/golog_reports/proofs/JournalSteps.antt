-- The lines of a journal, read one after another.
use Rattle.std.proofs.Common.{◌≡◌, ℕ, ◌<◌, ◌==◌, Option, Some, None, Result, Ok, Err, List, [], ◌∷◌, length, refl, sym, ap, ◌∙◌, subst, arith}
use Rattle.std.specs.Result.{IsErrAnd}
use Rattle.std.proofs.lemmas.List.Splits.{length-slice_split}
use Rattle.golog_rows.specs.Reading.{Reading, outcome_behind}
use Rattle.golog_rows.specs.Answers.{IfRefused, Leaves}
use Rattle.golog_tree.specs.declared.agent.Agent.{Agent}
use Rattle.golog_semantics.specs.declared.journal.Report.{Report}
use Rattle.golog_semantics.specs.Text.{Text}
use Rattle.golog_reports.specs.declared.fault.TextFault.{TextFault}
use Rattle.golog_reports.specs.declared.reading.Line.{Line}
use Rattle.golog_reports.specs.Answers.{Answers, code_at}
use Rattle.golog_reports.specs.Forms.{parts}
use Rattle.golog_reports.specs.Reads.{line_of, lines_in, with_line, journal_from}

-- a fault that is passed on answers what it answered
pub passed_on : {A : Type 0} (result : Result Unit TextFault) (fault : TextFault) (new : A) (reading : Reading A) → IsErrAnd result (λ e. e ≡ fault)
    → Answers {A = A} (Err fault) reading → Leaves code_at result new reading
passed_on (Ok done) fault new reading is h = absurd is
passed_on {A} (Err e) fault new reading is h = subst (λ (f : TextFault). Answers {A = A} (Err f) reading) (sym is) h

module _ (agent : Agent) where
  at-line : (report : Report) (text : Text) (texts : List Text) → 0 < length texts
      → (journal_from agent report (text ∷ texts)).outcome ≡ outcome_behind (line_of agent report.entries text).outcome (λ line. journal_from agent (with_line report line) texts)
  unfolding journal_from
  at-line report text [] h = absurd (omega (arith, h))
  at-line report text (next ∷ texts) h = refl

  some-part : (bytes : Text) → 0 < length (parts 10 bytes)
  some-part bytes = let k = length-slice_split (λ byte. byte == 10) bytes in omega (arith, k)

  module _ (report : Report) (text rest : Text) (whole : Result Report (ℕ × ℕ)) (so_far : (journal_from agent report (text ∷ parts 10 rest)).outcome ≡ whole) where
    at-part : outcome_behind (line_of agent report.entries text).outcome (λ line. journal_from agent (with_line report line) (parts 10 rest)) ≡ whole
    at-part = sym (at-line report text (parts 10 rest) (some-part rest)) ∙ so_far

    -- a line that is read
    pub line_goes_on : (next : Text) (others : List Text) → parts 10 rest ≡ next ∷ others → (line : Line) → (line_of agent report.entries text).outcome ≡ Ok line
        → (journal_from agent (with_line report line) (next ∷ others)).outcome ≡ whole
    line_goes_on next others h line e =
        ap (λ ts. (journal_from agent (with_line report line) ts).outcome) (sym h)
        ∙ sym (ap (λ o. outcome_behind o (λ line. journal_from agent (with_line report line) (parts 10 rest))) e) ∙ at-part

    -- a line that is refused
    pub line_is_refused : (refusal : Option (ℕ × ℕ)) → IfRefused refusal (λ code at. (line_of agent report.entries text).outcome ≡ Err (code, at))
        → IfRefused refusal (λ code at. whole ≡ Err (code, at))
    line_is_refused None e = tt
    line_is_refused (Some refusal) e =
        sym at-part ∙ ap (λ o. outcome_behind o (λ line. journal_from agent (with_line report line) (parts 10 rest))) e

  -- the last part
  pub nothing_behind : (report : Report) (text : Text) (whole : Result Report (ℕ × ℕ)) → (journal_from agent report (text ∷ [])).outcome ≡ whole → length text ≡ 0 → whole ≡ Ok report
  unfolding journal_from
  nothing_behind report [] whole e h = sym e
  nothing_behind report (byte ∷ bytes) whole e h = absurd (omega (arith, h))

  pub no_line_feed : (report : Report) (text : Text) (whole : Result Report (ℕ × ℕ)) → (journal_from agent report (text ∷ [])).outcome ≡ whole → 0 < length text
      → whole ≡ Err (50, length report.entries)
  unfolding journal_from
  no_line_feed report [] whole e h = absurd (omega (arith, h))
  no_line_feed report (byte ∷ bytes) whole e h = sym e

  -- the first part
  pub begun : (report : Report) (bytes first : Text) (others : List Text) → parts 10 bytes ≡ first ∷ others
      → (journal_from agent report (first ∷ others)).outcome ≡ (journal_from agent report (lines_in bytes)).outcome
  begun report bytes first others h = ap (λ ts. (journal_from agent report ts).outcome) (sym h)
