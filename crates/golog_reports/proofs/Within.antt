-- What is refused of the lines of entries stands within the places that a journal may have, or right behind them.
use Rattle.std.proofs.Common.{◌≡◌, ℕ, ◌+◌, ◌≤◌, ◌⊎◌, inl, inr, Bool, true, false, not, Option, Some, None, Result, Ok, Err, List, [], ◌∷◌, length, length-append, refl, ap, arith}
use Rattle.golog_rows.specs.Reading.{Reading, found, gives, outcome_behind, unless, ◌>>=◌}
use Rattle.golog_rows.specs.Answers.{IfRefused}
use Rattle.golog_tree.specs.declared.agent.Agent.{Agent}
use Rattle.golog_semantics.specs.declared.journal.Report.{Report}
use Rattle.golog_semantics.specs.Journal.{Journal}
use Rattle.golog_semantics.specs.Reports.{place_limit}
use Rattle.golog_semantics.specs.Text.{Text}
use Rattle.golog_semantics.specs.Ways.{is_empty}
use Rattle.golog_reports.specs.declared.reading.Line.{Line}
use Rattle.golog_reports.specs.Codes.{MISPLACED, NO_BODY, NO_RESULT, NOT_OWN}
use Rattle.golog_reports.specs.Said.{Said, said_in}
use Rattle.golog_reports.specs.Reads.{is_in_place, journal_from, line_named, line_of, line_said, named, with_line}
use Rattle.golog_reports.proofs.Says.{is_read}
use Rattle.golog_reports.proofs.WholeReports.{small-place}

-- a refusal that comes behind a part is the part's own, or that of what is read behind it
behind-err : {A B : Type 0} (o : Result A (ℕ × ℕ)) (next : A → Reading B) (r : ℕ × ℕ) → outcome_behind o next ≡ Err r
    → (o ≡ Err r) ⊎ ((x : A) × (o ≡ Ok x) × ((next x).outcome ≡ Err r))
behind-err (Ok x) next r e = inr (x, refl, e)
behind-err (Err q) next r e = let same : q ≡ r = cc in inl (ap Err same)

refused-at : {A : Type 0} (q r : ℕ × ℕ) → ◌≡◌ {A = Result A (ℕ × ℕ)} (Err q) (Err r) → q.1 ≡ r.1
refused-at q r e = let same : q ≡ r = cc in ap (λ (p : ℕ × ℕ). p.1) same

found-err : {A : Type 0} (code at : ℕ) (o : Option A) (r : ℕ × ℕ) → (found code at o).outcome ≡ Err r → at ≡ r.1
found-err code at None r e = refused-at (code, at) r e
found-err code at (Some x) r e = absurd (cc)

-- the row is refused, or what is read where it does not fit
unless-err : {A : Type 0} (b : Bool) (q : ℕ × ℕ) (o : Result A (ℕ × ℕ)) (r : ℕ × ℕ) → unless b q o ≡ Err r → (q.1 ≡ r.1) ⊎ (o ≡ Err r)
unless-err {A} true q o r e = inl (refused-at {A = A} q r e)
unless-err false q o r e = inr e

module _ (agent : Agent) where
  module _ (before : Journal) where
    named-refused : (said : Said) (r : ℕ × ℕ)
        → (found NOT_OWN (length before) (named agent said.body) >>= λ what. found NO_RESULT (length before) (line_named agent before what)).outcome ≡ Err r
        → length before ≡ r.1
    named-refused said r e =
        elim (behind-err (found NOT_OWN (length before) (named agent said.body)).outcome (λ what. found NO_RESULT (length before) (line_named agent before what)) r e) [
          | inl h ↦ found-err NOT_OWN (length before) (named agent said.body) r h
          | inr h ↦ found-err NO_RESULT (length before) (line_named agent before h.0) r h.2
        ]

    said-refused : (said : Said) (r : ℕ × ℕ) → (line_said agent before said).outcome ≡ Err r → length before ≡ r.1
    unfolding line_said
    said-refused said r e =
        let rest : Reading Line = found NOT_OWN (length before) (named agent said.body) >>= λ what. found NO_RESULT (length before) (line_named agent before what) in
        elim (unless-err (not (is_in_place (length before) said)) (MISPLACED, length before) rest.outcome r e) [
          | inl h ↦ h
          | inr h ↦ named-refused said r h
        ]

    line-refused : (text : Text) (r : ℕ × ℕ) → (line_of agent before text).outcome ≡ Err r → length before ≡ r.1
    unfolding line_of
    line-refused text r e =
        elim (behind-err (found NO_BODY (length before) (said_in text)).outcome (line_said agent before) r e) [
          | inl h ↦ found-err NO_BODY (length before) (said_in text) r h
          | inr h ↦ said-refused h.0 r h.2
        ]

  pub refused-within : (report : Report) (texts : List Text) (r : ℕ × ℕ) → length report.entries ≤ place_limit + 1 → (journal_from agent report texts).outcome ≡ Err r → r.1 ≤ place_limit + 1
  unfolding journal_from
  refused-within report [] r few e = absurd (cc)
  refused-within report (last ∷ []) r few e =
      elim (unless-err (not (is_empty last)) (NO_BODY, length report.entries) (gives report).outcome r e) [
        | inl h ↦ omega (arith, few, h)
        | inr h ↦ absurd (cc)
      ]
  refused-within report (text ∷ next ∷ texts) r few e =
      elim (behind-err (line_of agent report.entries text).outcome (λ line. journal_from agent (with_line report line) (next ∷ texts)) r e) [
        | inl h ↦ (let at = line-refused report.entries text r h in omega (arith, few, at))
        | inr h ↦ (
            let read = is_read agent report.entries text h.0 h.1 in
            let small = (small-place agent (length report.entries) read.said read.in_place).0 in
            let more = length-append report.entries (h.0.entry ∷ []) in
            refused-within (with_line report h.0) (next ∷ texts) r (omega (arith, small, more)) h.2
            )
      ]

  -- of a refusal, if there is one
  pub refusal-within : (report : Report) (texts : List Text) (refusal : Option (ℕ × ℕ)) → length report.entries ≤ place_limit + 1
      → IfRefused refusal (λ code at. (journal_from agent report texts).outcome ≡ Err (code, at)) → IfRefused refusal (λ code at. at ≤ place_limit + 1)
  refusal-within report texts None few e = tt
  refusal-within report texts (Some r) few e = refused-within report texts r few e
