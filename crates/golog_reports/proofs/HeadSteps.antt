-- The lines of a head, read one after another.
use Rattle.std.proofs.Common.{◌≡◌, ℕ, suc, ◌+◌, Option, Some, None, Result, Ok, Err, [], ◌∷◌, ◌++◌, length, length-append, sym, ap, ◌∙◌, subst, arith}
use denote.Ref.{Bor}
use Rattle.std.specs.Prelude.{List, option_map}
use Rattle.std.specs.Result.{IsErrAnd}
use Rattle.golog_rows.specs.Reading.{Reading, outcome_behind}
use Rattle.golog_rows.specs.Answers.{IfRefused}
use Rattle.golog_tree.specs.declared.agent.Agent.{Agent}
use Rattle.golog_semantics.specs.Text.{Text}
use Rattle.golog_semantics.specs.Truth.{Values}
use Rattle.golog_reports.specs.declared.fault.TextFault.{TextFault}
use Rattle.golog_reports.specs.Answers.{ReadsOn, code_at}
use Rattle.golog_reports.specs.Codes.{HEAD}
use Rattle.golog_reports.specs.Reads.{head_from, start_in, start_read}
use Rattle.golog_reports.proofs.Says.{found-ok, mapped}

abbrev Head : Type 0
Head = Values × Text

-- a fault that is passed on
pub refused_on : (result : Result (Bor (List ℕ)) TextFault) (fault : TextFault) (values : Values) (reading : Reading Head) → IsErrAnd result (λ e. e ≡ fault)
    → IfRefused (code_at fault) (λ code at. reading.outcome ≡ Err (code, at)) → ReadsOn result values reading
refused_on (Ok rest) fault values reading is h = absurd is
refused_on (Err e) fault values reading is h = subst (λ (f : TextFault). IfRefused (code_at f) (λ code at. reading.outcome ≡ Err (code, at))) (sym is) h

-- what is answered goes by the outcome
pub same_outcome : (result : Result (Bor (List ℕ)) TextFault) (values : Values) (one other : Reading Head) → one.outcome ≡ other.outcome → ReadsOn result values one → ReadsOn result values other
same_outcome (Ok rest) values one other e h = sym e ∙ h
same_outcome (Err fault) values one other e h = subst (λ (o : Result Head (ℕ × ℕ)). IfRefused (code_at fault) (λ code at. o ≡ Err (code, at))) e h

module _ (agent : Agent) (values : Values) (text : Text) where
  -- a line that is read tells one value more
  pub one-start : (new : Values) (rest : Text) → (start_read agent values text).outcome ≡ Ok (new, rest) → length new ≡ length values + 1
  unfolding start_read
  one-start new rest e =
      let add : ℕ × Text → Head = λ said. (values ++ said.0 ∷ [], said.1) in
      let one = found-ok HEAD (length values + 1) (option_map add (start_in agent (length values) text)) (new, rest) e in
      let said = mapped add (start_in agent (length values) text) (new, rest) one in
      let same = ap (λ (h : Head). length h.0) said.2 in
      let more = length-append values (said.0.0 ∷ []) in omega (arith, same, more)

  module _ (more : ℕ) (whole : Result Head (ℕ × ℕ)) (so_far : (head_from agent (suc more) values text).outcome ≡ whole) where
    at-line : outcome_behind (start_read agent values text).outcome (λ said. head_from agent more said.0 said.1) ≡ whole
    unfolding head_from
    at-line = so_far

    pub head_goes_on : (new : Values) (rest : Text) → (start_read agent values text).outcome ≡ Ok (new, rest) → (head_from agent more new rest).outcome ≡ whole
    head_goes_on new rest e = sym (ap (λ o. outcome_behind o (λ said. head_from agent more said.0 said.1)) e) ∙ at-line

    pub head_is_refused : (refusal : Option (ℕ × ℕ)) → IfRefused refusal (λ code at. (start_read agent values text).outcome ≡ Err (code, at))
        → IfRefused refusal (λ code at. whole ≡ Err (code, at))
    head_is_refused None e = tt
    head_is_refused (Some refusal) e = sym at-line ∙ ap (λ o. outcome_behind o (λ said. head_from agent more said.0 said.1)) e
