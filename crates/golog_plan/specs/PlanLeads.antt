-- What a turn of a program that follows plans makes of a journal to which no one else adds: it adds to it and takes
-- nothing away, adds nothing behind the end, and does not wait where each device is closed or at rest. (This project's
-- own.)
use Rattle.std.specs.Prelude.{◌≡◌, ℕ, Bool, true, false, not, ◌&&◌, ◌||◌, if◌then◌else◌, IsTrue, Option, Some, None, [], ◌∷◌, ◌++◌, is_none, refl}
use Rattle.std.specs.Option.{option_map_or}
use Rattle.std.proofs.Common.{append-nil, sym}
use Rattle.golog_tree.specs.declared.agent.Agent.{Agent}
use Rattle.golog_tree.specs.declared.prog.Label.{Label}
use Rattle.golog_semantics.specs.declared.journal.Entry.TheVariants.{End}
use Rattle.golog_semantics.specs.declared.journal.Answer.{Answer}
use Rattle.golog_semantics.specs.declared.journal.Answer.TheVariants.{Memory}
use Rattle.golog_semantics.specs.Inline.{entry_for}
use Rattle.golog_semantics.specs.Journal.{Journal, has_end, is_quiet, lacks_results}
use Rattle.golog_semantics.specs.Progress.{values_after}
use Rattle.golog_lead.specs.Rounds.{Adds}
use Rattle.golog_branch.specs.Following.{ahead, kept_after}
use Rattle.golog_branch.specs.PlanJournals.{has_no_plan, label_ahead, may_step_ahead, plan_answer, plan_waits}

-- memory alone ends it early
abbrev pub IsStarved : Answer → Type 0
IsStarved answer = answer ≡ Memory

-- ---- lists with something behind them

adds-none : (journal : Journal) → Adds journal journal
adds-none journal = ([], sym (append-nil journal))

either-adds : (journal : Journal) (b : Bool) (x y : Journal) → Adds journal x → Adds journal y
    → Adds journal (if b then x else y)
either-adds journal true x y f g = f
either-adds journal false x y f g = g

ended-adds : (journal : Journal) (o : Option Answer) (x : Journal) → Adds journal x
    → Adds journal (option_map_or (λ a. journal ++ End a ∷ []) o x)
ended-adds journal None x f = f
ended-adds journal (Some a) x f = (End a ∷ [], refl)

chosen : (b : Bool) (x y : Journal) → b ≡ true → (if b then x else y) ≡ x
chosen true x y h = refl
chosen false x y h = absurd (cc)

awake : (quiet none stuck : Bool) → quiet ≡ true → (not quiet && none && stuck) ≡ false
awake true none stuck e = refl
awake false none stuck e = cc

module _ (agent : Agent) (depth fuel : ℕ) where
  -- the label of the first step of what is ahead
  abbrev pub next_label : Journal → Option Label
  next_label journal =
      label_ahead (ahead agent depth fuel (values_after agent journal) (kept_after agent depth fuel journal))

  -- the step is taken, where one is ahead and may be taken
  abbrev pub step_ahead : Journal → Option Label → Journal
  step_ahead journal None = journal
  step_ahead journal (Some label) =
      if may_step_ahead agent depth fuel journal (values_after agent journal) (kept_after agent depth fuel journal) label
      then journal ++ entry_for label ∷ [] else journal

  -- the end where there is an answer, or else the first step of what is ahead, or else nothing
  abbrev pub plan_lead : Journal → Journal
  plan_lead journal =
      if has_end journal then journal
      else option_map_or (λ a. journal ++ End a ∷ []) (plan_answer agent depth fuel journal)
      (step_ahead journal (next_label journal))

  step-adds : (journal : Journal) (o : Option Label) → Adds journal (step_ahead journal o)
  step-adds journal None = adds-none journal
  step-adds journal (Some label) =
      either-adds journal
      (may_step_ahead agent depth fuel journal (values_after agent journal) (kept_after agent depth fuel journal) label)
      (journal ++ entry_for label ∷ []) journal (_, refl) (adds-none journal)

  pub plan_adds : (journal : Journal) → Adds journal (plan_lead journal)
  plan_adds journal =
      let stepped = step_ahead journal (next_label journal) in
      either-adds journal (has_end journal) journal
      (option_map_or (λ a. journal ++ End a ∷ []) (plan_answer agent depth fuel journal) stepped) (adds-none journal)
      (ended-adds journal (plan_answer agent depth fuel journal) stepped (step-adds journal (next_label journal)))

  pub plan_stays : (journal : Journal) → has_end journal ≡ true → plan_lead journal ≡ journal
  plan_stays journal h = chosen (has_end journal) journal _ h

  pub plan_goes_on : (journal : Journal) → IsTrue (is_quiet agent journal) → plan_waits agent depth fuel journal ≡ false
  unfolding plan_waits
  plan_goes_on journal quiet =
      awake (is_quiet agent journal) (is_none (plan_answer agent depth fuel journal))
      (lacks_results agent journal || has_no_plan agent depth fuel journal) quiet
