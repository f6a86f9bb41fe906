-- The rules of an entry that keeps them all.
use Rattle.std.proofs.Common.{◌≡◌, ℕ, Bool, true, false, not, ◌&&◌, ◌||◌, List, [], ◌∷◌, ◌++◌, length, None, refl, sym, ap, ◌∙◌}
use Rattle.std.specs.Prelude.{is_none, nat_lt}
use Rattle.std.proofs.lemmas.Bool.{and_parts, not-true}
use Rattle.golog_tree.specs.declared.agent.Agent.{Agent}
use Rattle.golog_tree.specs.declared.prog.Label.{Label}
use Rattle.golog_tree.specs.declared.prog.Label.TheVariants.{Quiet, Do as Doing}
use Rattle.golog_semantics.specs.declared.Mode.TheVariants.{Must}
use Rattle.golog_semantics.specs.declared.search.Move.{Move}
use Rattle.golog_semantics.specs.declared.journal.PlacedRun.{PlacedRun}
use Rattle.golog_semantics.specs.declared.journal.Why.{Why}
use Rattle.golog_semantics.specs.Ways.{is_empty}
use Rattle.golog_semantics.specs.Search.{final}
use Rattle.golog_semantics.specs.Blocks.{moves}
use Rattle.golog_semantics.specs.Answer.{answer_after}
use Rattle.golog_semantics.specs.declared.journal.Entry.{Entry}
use Rattle.golog_semantics.specs.declared.journal.Why.TheVariants as why
use Rattle.golog_semantics.specs.Journal.{Journal, count, has_end, is_close, is_quiet, is_settled, limit}
use Rattle.golog_semantics.specs.Progress.{values_after, left_after}
use Rattle.golog_semantics.specs.InlineText.{begun_runs}
use Rattle.golog_semantics.specs.Text.{run_at}
use Rattle.golog_semantics.specs.Online.{fault_among, is_first, may_step, keeps_after, keeps_poster, keeps_place, keeps_taken, keeps_step, keeps_run, keeps_answer, keeps_close, keeps_text}
use Rattle.golog_lead.specs.Keeping.{KeepsRules}
use Rattle.golog_lead.specs.Run.{is_step_entry}
use Rattle.golog_lead.specs.Waiting.{has_no_step, takes_no_step, waits}
use Rattle.golog_lead.proofs.StepEntries.{each-step}
use Rattle.golog_lead.proofs.BegunRuns.{run-kept}

-- none fails exactly where each is kept
pub all_kept : (n : ℕ) (a b c d e f g h i : Bool) → a ≡ true → b ≡ true → c ≡ true → d ≡ true → e ≡ true → f ≡ true → g ≡ true → h ≡ true → i ≡ true
    → fault_among n ((why.After, a) ∷ (why.Poster, b) ∷ (why.Place, c) ∷ (why.Taken, d) ∷ (why.Step, e) ∷ (why.Run, f) ∷ (why.Answer, g) ∷ (why.Close, h) ∷ (why.Text, i) ∷ []) ≡ None
all_kept n a b c d e f g h i ka kb kc kd ke kf kg kh ki = rw (ka, kb, kc, kd, ke, kf, kg, kh, ki) refl

step_kept : (n : ℕ) (a b c d e f g h i : Bool)
    → fault_among n ((why.After, a) ∷ (why.Poster, b) ∷ (why.Place, c) ∷ (why.Taken, d) ∷ (why.Step, e) ∷ (why.Run, f) ∷ (why.Answer, g) ∷ (why.Close, h) ∷ (why.Text, i) ∷ []) ≡ None
    → e ≡ true
step_kept n true true true true true f g h i k = refl
step_kept n true true true true false f g h i k = absurd (cc)
step_kept n true true true false e f g h i k = absurd (cc)
step_kept n true true false d e f g h i k = absurd (cc)
step_kept n true false c d e f g h i k = absurd (cc)
step_kept n false b c d e f g h i k = absurd (cc)

-- what holds for no other reason tells that it is false
pub not_or : (b : Bool) → (not b || false) ≡ true → b ≡ false
not_or true h = absurd (cc)
not_or false h = refl

module _ (agent : Agent) (journal : Journal) (e : Entry) where
  abbrev runs : List PlacedRun
  runs = begun_runs agent (journal ++ e ∷ [])

  pub keeps_its_step : KeepsRules agent journal e → keeps_step agent journal (values_after agent journal) (left_after agent journal) e ≡ true
  keeps_its_step h =
      step_kept (length journal) (keeps_after agent journal e) (keeps_poster agent journal e) (keeps_place agent journal e) (keeps_taken agent journal e)
      (keeps_step agent journal (values_after agent journal) (left_after agent journal) e)
      (keeps_run agent journal (run_at runs (length journal)) (values_after agent journal) (left_after agent journal) e)
      (keeps_answer agent journal (values_after agent journal) (left_after agent journal) e) (keeps_close agent journal e) (keeps_text agent journal runs None e) h

  pub no_fault : keeps_after agent journal e ≡ true → keeps_poster agent journal e ≡ true → keeps_place agent journal e ≡ true → keeps_taken agent journal e ≡ true
      → keeps_step agent journal (values_after agent journal) (left_after agent journal) e ≡ true
      → keeps_answer agent journal (values_after agent journal) (left_after agent journal) e ≡ true → keeps_close agent journal e ≡ true
      → KeepsRules agent journal e
  no_fault a b c d s n k = all_kept (length journal) _ _ _ _ _ _ _ _ true a b c d s (run-kept agent journal e) n k refl

  after_of : (n : ℕ) (a : Bool) (rules : List (Why × Bool)) → fault_among n ((why.After, a) ∷ rules) ≡ None → a ≡ true
  after_of n true rules k = refl
  after_of n false rules k = absurd (cc)

  keeps_its_after : KeepsRules agent journal e → keeps_after agent journal e ≡ true
  keeps_its_after h =
      after_of (length journal) (keeps_after agent journal e)
      ((why.Poster, keeps_poster agent journal e)
      ∷ (why.Place, keeps_place agent journal e)
      ∷ (why.Taken, keeps_taken agent journal e)
      ∷ (why.Step, keeps_step agent journal (values_after agent journal) (left_after agent journal) e)
      ∷ (why.Run, keeps_run agent journal (run_at runs (length journal)) (values_after agent journal) (left_after agent journal) e)
      ∷ (why.Answer, keeps_answer agent journal (values_after agent journal) (left_after agent journal) e)
      ∷ (why.Close, keeps_close agent journal e)
      ∷ (why.Text, keeps_text agent journal runs None e)
      ∷ []) h

  first-of-two : (b c : Bool) → c ≡ false → (b || c) ≡ true → b ≡ true
  first-of-two true c none h = refl
  first-of-two false c none h = absurd (let k = sym none ∙ h in cc)

  by_label : (l : Label) → may_step agent journal (values_after agent journal) (left_after agent journal) l ≡ true → waits agent journal ≡ true → ⊥
  unfolding waits
  by_label l h w =
      let four = and_parts (is_settled agent journal && not (final agent (values_after agent journal) Must (left_after agent journal)) && nat_lt (count journal) limit)
      (is_first agent journal l (moves agent (values_after agent journal) Must (left_after agent journal))) h in
      let two = and_parts (is_settled agent journal) (not (final agent (values_after agent journal) Must (left_after agent journal)))
      (and_parts (is_settled agent journal && not (final agent (values_after agent journal) Must (left_after agent journal))) (nat_lt (count journal) limit) four.0).0 in
      let unended = not-true (final agent (values_after agent journal) Must (left_after agent journal)) two.1 in
      let waiting = (and_parts (not (is_quiet agent journal) && is_none (answer_after agent journal)) (not (is_settled agent journal) || takes_no_step agent journal) w).1 in
      let stopped : takes_no_step agent journal ≡ true = sym (ap (λ b. not b || takes_no_step agent journal) two.0) ∙ waiting in
      let none = first-of-two (has_no_step agent journal) (final agent (values_after agent journal) Must (left_after agent journal)) unended stopped in
      go (moves agent (values_after agent journal) Must (left_after agent journal)) none four.1
    where
      go : (ms : List Move) → is_empty ms ≡ true → is_first agent journal l ms ≡ true → ⊥
      go [] e k = absurd (cc)
      go (m ∷ ms) e k = absurd (cc)

  -- a program that takes a step does not wait there, and has not ended
  pub stepping-ends-waits : is_step_entry e ≡ true → KeepsRules agent journal e → waits agent journal ≡ true → ⊥
  stepping-ends-waits is h w =
      each-step (λ x. keeps_step agent journal (values_after agent journal) (left_after agent journal) x ≡ true → ⊥)
      (λ action k. by_label (Doing action) k w) (λ k. by_label Quiet k w) e is (keeps_its_step h)

  pub step-unended : is_step_entry e ≡ true → KeepsRules agent journal e → has_end journal ≡ false
  step-unended is h =
      each-step (λ x. (not (has_end journal) || is_close x) ≡ true → has_end journal ≡ false) (λ action. not_or (has_end journal))
      (not_or (has_end journal)) e is (keeps_its_after h)
