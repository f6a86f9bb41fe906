-- What came of a turn of a program that follows plans, and what a turn makes of a journal where no one else adds entries.
use Rattle.std.proofs.Common.{◌≡◌, ◌↔◌, ℕ, Bool, true, false, not, ◌&&◌, ◌||◌, if◌then◌else◌, ◌⊎◌, inl, inr, [], ◌∷◌, ◌++◌, Option, Some, None, refl, sym, ap, ◌∙◌, subst}
use Rattle.std.specs.Prelude.{IsTrue, is_none, nat_lt}
use Rattle.std.specs.Option.{option_map_or}
use Rattle.std.proofs.lemmas.Bool.{and_parts, eqb-true, not-true}
use Rattle.std.proofs.lemmas.List.{append-nil}
use Rattle.golog_tree.specs.declared.agent.Agent.{Agent}
use Rattle.golog_tree.specs.declared.prog.Label.{Label}
use Rattle.golog_tree.specs.declared.prog.Label.TheVariants.{Quiet, Do as Doing}
use Rattle.golog_semantics.specs.declared.Mode.TheVariants.{Must}
use Rattle.golog_semantics.specs.declared.journal.Answer.{Answer}
use Rattle.golog_semantics.specs.declared.journal.Entry.{Entry}
use Rattle.golog_semantics.specs.declared.journal.Entry.TheVariants.{End}
use Rattle.golog_semantics.specs.Inline.{entry_for}
use Rattle.golog_semantics.specs.Journal.{Journal, count, has_end, is_close, is_quiet, lacks_results, limit}
use Rattle.golog_semantics.specs.Progress.{values_after}
use Rattle.golog_semantics.specs.Same.{same_label}
use Rattle.golog_semantics.specs.Search.{final}
use Rattle.golog_journal.specs.declared.lead.Led.TheVariants as led
use Rattle.golog_journal.specs.Growing.{Sight, program}
use Rattle.golog_journal.specs.Leading.{Mind, TakesTurn}
use Rattle.golog_lead.specs.declared.stepped.Stepped.{Stepped}
use Rattle.golog_lead.specs.declared.stepped.Stepped.TheVariants.{Step, Waiting, Ended}
use Rattle.golog_lead.specs.Run.{is_step_entry}
use Rattle.golog_lead.specs.Seeing.{CommitsEnd, CommitsStep, EndStood, StillWaits, led_for}
use Rattle.golog_lead.specs.Short.{EndsShort}
use Rattle.golog_lead.proofs.StepEntries.{each-step}
use Rattle.golog_lead.proofs.Turning.{alone-grows, alone-stays, led-so, takes-turn}
use Rattle.golog_branch.specs.declared.tree.Planned.{Planned}
use Rattle.golog_branch.specs.declared.tree.Planned.TheVariants.{Absent, Found, Fuel, Large}
use Rattle.golog_branch.specs.Following.{ahead, kept_after}
use Rattle.golog_branch.specs.PlanJournals.{IsPlannedSoFar, KeepsPlanned, has_no_plan, is_found, is_label, keeps_plan_step, label_ahead, may_step_ahead, plan_answer, plan_waits}
use Rattle.golog_plan.specs.Keeping.{PlanCourse, planned_to}
use Rattle.golog_plan.specs.PlanLeads.{IsStarved, next_label, plan_lead, plan_stays, step_ahead}
use Rattle.golog_plan.specs.Turns.{MayAnswer, TurnIs, does_wait}
use Rattle.golog_plan.proofs.Decisions.{step-answers-none}

-- ---- a step

not_or : (b : Bool) → (not b || false) ≡ true → b ≡ false
not_or true h = absurd (cc)
not_or false h = refl

label-eq : (l k : Label) → same_label l k ≡ true → l ≡ k
label-eq Quiet Quiet e = refl
label-eq Quiet (Doing b) e = absurd (cc)
label-eq (Doing a) Quiet e = absurd (cc)
label-eq (Doing a) (Doing b) e = ap Doing (eqb-true a b e)

label-some : (l : Label) (o : Option Label) → is_label l o ≡ true → o ≡ Some l
label-some l None h = absurd (cc)
label-some l (Some k) h = ap Some (sym (label-eq l k h))

found-so : (x : Planned) (l : Label) → label_ahead x ≡ Some l → is_found x ≡ true
found-so (Found t) l h = refl
found-so Absent l h = absurd (cc)
found-so Fuel l h = absurd (cc)
found-so Large l h = absurd (cc)

unlabelled : (x : Planned) → not (is_found x) ≡ true → label_ahead x ≡ None
unlabelled (Found t) h = absurd (cc)
unlabelled Absent h = refl
unlabelled Fuel h = refl
unlabelled Large h = refl

module _ (agent : Agent) (depth fuel : ℕ) (journal : Journal) where
  abbrev c : PlanCourse
  c = planned_to agent depth fuel journal

  abbrev X : Planned
  X = ahead agent depth fuel (values_after agent journal) (kept_after agent depth fuel journal)

  abbrev may : Label → Bool
  may label = may_step_ahead agent depth fuel journal (values_after agent journal) (kept_after agent depth fuel journal) label

  -- a step that may be taken
  record Takes (l : Label) : Type 0 where
    none : lacks_results agent journal ≡ false
    unended : final agent (values_after agent journal) Must (kept_after agent depth fuel journal).left ≡ false
    room : nat_lt (count journal) limit ≡ true
    label : label_ahead X ≡ Some l

  takes-so : (l : Label) → may l ≡ true → Takes l
  takes-so l h =
      let last = final agent (values_after agent journal) Must (kept_after agent depth fuel journal).left in
      let four = and_parts (not (lacks_results agent journal) && not last && nat_lt (count journal) limit) (is_label l (label_ahead X)) h in
      let three = and_parts (not (lacks_results agent journal) && not last) (nat_lt (count journal) limit) four.0 in
      let two = and_parts (not (lacks_results agent journal)) (not last) three.0 in
      record { none = not-true (lacks_results agent journal) two.0; unended = not-true last two.1; room = three.1; label = label-some l (label_ahead X) four.1 }

  kept-last : (e : Entry) → IsPlannedSoFar agent depth fuel (journal ++ e ∷ []) → KeepsPlanned agent depth fuel journal e
  kept-last e so = so.entries journal e [] refl

  unended-by : (e : Entry) → is_step_entry e ≡ true → IsPlannedSoFar agent depth fuel (journal ++ e ∷ []) → has_end journal ≡ false
  unended-by e is so =
      each-step (λ x. (not (has_end journal) || is_close x) ≡ true → has_end journal ≡ false) (λ action. not_or (has_end journal)) (not_or (has_end journal)) e is (kept-last e so).after

  awake-at : (l : Label) → may l ≡ true → plan_waits agent depth fuel journal ≡ true → ⊥
  unfolding plan_waits
  awake-at l h w =
      let t = takes-so l h in
      let waiting = (and_parts (not (is_quiet agent journal) && is_none (plan_answer agent depth fuel journal)) (lacks_results agent journal || has_no_plan agent depth fuel journal) w).1 in
      go (lacks_results agent journal) (is_found X) t.none (found-so X l t.label) waiting
    where
      go : (lacks found : Bool) → lacks ≡ false → found ≡ true → (lacks || not found) ≡ true → ⊥
      go true found none h k = absurd (cc)
      go false true none h k = absurd (cc)
      go false false none h k = absurd (cc)

  awake-by : (e : Entry) → is_step_entry e ≡ true → IsPlannedSoFar agent depth fuel (journal ++ e ∷ []) → plan_waits agent depth fuel journal ≡ true → ⊥
  awake-by e is so w =
      each-step (λ x. keeps_plan_step agent depth fuel journal (values_after agent journal) (kept_after agent depth fuel journal) x ≡ true → ⊥)
      (λ action h. awake-at (Doing action) h w) (λ h. awake-at Quiet h w) e is (kept-last e so).step

  -- ---- what a turn makes of a journal

  lead-goes : (o : Option Answer) → has_end journal ≡ false → plan_answer agent depth fuel journal ≡ o
      → plan_lead agent depth fuel journal ≡ option_map_or (λ a. journal ++ End a ∷ []) o (step_ahead agent depth fuel journal (next_label agent depth fuel journal))
  lead-goes o h e =
      ap
      (λ b. if b then journal
      else option_map_or (λ a. journal ++ End a ∷ []) (plan_answer agent depth fuel journal) (step_ahead agent depth fuel journal (next_label agent depth fuel journal))) h
      ∙ ap (λ k. option_map_or (λ a. journal ++ End a ∷ []) k (step_ahead agent depth fuel journal (next_label agent depth fuel journal))) e

  step-leads : (l : Label) → has_end journal ≡ false → may l ≡ true → plan_lead agent depth fuel journal ≡ journal ++ entry_for l ∷ []
  step-leads l goes h =
      let t = takes-so l h in
      lead-goes None goes (step-answers-none c t.room t.none t.unended (found-so X l t.label))
      ∙ ap (step_ahead agent depth fuel journal) t.label ∙ ap (λ b. if b then journal ++ entry_for l ∷ [] else journal) h

  entry-leads : (e : Entry) → is_step_entry e ≡ true → IsPlannedSoFar agent depth fuel (journal ++ e ∷ []) → plan_lead agent depth fuel journal ≡ journal ++ e ∷ []
  entry-leads e is so =
      each-step
      (λ x. has_end journal ≡ false → keeps_plan_step agent depth fuel journal (values_after agent journal) (kept_after agent depth fuel journal) x ≡ true
      → plan_lead agent depth fuel journal ≡ journal ++ x ∷ [])
      (λ action. step-leads (Doing action)) (step-leads Quiet) e is (unended-by e is so) (kept-last e so).step

  none-so : (o : Option Answer) → is_none o ≡ true → o ≡ None
  none-so None h = refl
  none-so (Some a) h = absurd (cc)

  not-taken : (o : Option Label) → lacks_results agent journal ≡ true → step_ahead agent depth fuel journal o ≡ journal
  not-taken None h = refl
  not-taken (Some l) h =
      ap (λ b. if b then journal ++ entry_for l ∷ [] else journal)
      (no-step (lacks_results agent journal) (final agent (values_after agent journal) Must (kept_after agent depth fuel journal).left) (nat_lt (count journal) limit)
      (is_label l (label_ahead X)) h)
    where
      no-step : (lacks ends room first : Bool) → lacks ≡ true → (not lacks && not ends && room && first) ≡ false
      no-step lacks ends room first e = ap (λ b. not b && not ends && room && first) e

  -- a program that waits adds nothing
  waiting-leads : has_end journal ≡ false → plan_waits agent depth fuel journal ≡ true → plan_lead agent depth fuel journal ≡ journal
  unfolding plan_waits
  waiting-leads goes w =
      let parts = and_parts (not (is_quiet agent journal) && is_none (plan_answer agent depth fuel journal)) (lacks_results agent journal || has_no_plan agent depth fuel journal) w in
      let none = none-so (plan_answer agent depth fuel journal) (and_parts (not (is_quiet agent journal)) (is_none (plan_answer agent depth fuel journal)) parts.0).1 in
      lead-goes None goes none ∙ by (lacks_results agent journal) refl parts.1
    where
      by : (b : Bool) → lacks_results agent journal ≡ b → (b || has_no_plan agent depth fuel journal) ≡ true
          → step_ahead agent depth fuel journal (next_label agent depth fuel journal) ≡ journal
      by true is h = not-taken (next_label agent depth fuel journal) is
      by false is h = ap (step_ahead agent depth fuel journal) (unlabelled X h)

-- ---- a turn

module _ (depth fuel : ℕ) where
  -- what a copy keeps
  abbrev keeps : Agent → Journal → Type 0
  keeps agent journal = IsPlannedSoFar agent depth fuel journal

  unended : (agent : Agent) (journal : Journal) (e : Entry) → is_step_entry e ≡ true → keeps agent (journal ++ e ∷ []) → has_end journal ≡ false
  unended agent journal e is so = unended-by agent depth fuel journal e is so

  awake : (agent : Agent) (journal : Journal) (e : Entry) → is_step_entry e ≡ true → keeps agent (journal ++ e ∷ []) → does_wait depth fuel agent journal ≡ true → ⊥
  awake agent journal e is so w = awake-by agent depth fuel journal e is so w

  module _ (first later : Agent) (list : Journal) (old new : Sight) (agent : first ≡ old.agent) (same : later ≡ first) (whole : list ≡ new.seen) (kept : keeps later list) (s : Stepped)
      (t : TurnIs depth fuel old new s) where
    kept-seen : keeps first new.seen
    kept-seen = subst (λ g. keeps g new.seen) same (subst (keeps later) whole kept)

    pub lead-turn : (mind : Mind) → mind.agent ≡ first → mind.waits ≡ does_wait depth fuel first → TakesTurn mind old new
    lead-turn mind own waits =
        takes-turn (does_wait depth fuel) (MayAnswer depth fuel) old new keeps unended awake mind s (own ∙ agent) (waits ∙ ap (does_wait depth fuel) (sym own)) t
        (subst (λ g. keeps g new.seen) (sym own) kept-seen)

    -- it tells that the program has ended exactly where the end stands
    pub lead-so : old.holds program ≡ true → new.agent ≡ old.agent → (led_for s ≡ led.Ended) ↔ IsTrue (has_end new.seen)
    lead-so held still =
        led-so (does_wait depth fuel) (MayAnswer depth fuel) old new keeps unended awake s held t (subst (λ g. keeps g new.seen) (agent ∙ sym still) kept-seen)

    -- where no one else adds entries
    module _ (alone : old.alone ≡ true) where
      answered-here : (a : Answer) (others : Journal) → others ≡ [] → MayAnswer depth fuel old.agent (old.seen ++ others) a → MayAnswer depth fuel first old.seen a
      answered-here a others none h =
          subst (λ g. MayAnswer depth fuel g old.seen a) (sym agent)
          (subst (λ seen. MayAnswer depth fuel old.agent seen a) (ap (λ xs. old.seen ++ xs) none ∙ append-nil old.seen) h)

      by-end : (a : Answer) → has_end old.seen ≡ false → MayAnswer depth fuel first old.seen a → new.seen ≡ old.seen ++ End a ∷ []
          → (new.seen ≡ plan_lead first depth fuel old.seen) ⊎ EndsShort IsStarved old.seen new.seen
      by-end a goes (inl is) e = inr (record { answer = a; short = is; is = e })
      by-end a goes (inr is) e = inl (e ∙ sym (lead-goes first depth fuel old.seen (Some a) goes is))

      by-step : CommitsStep old new → new.seen ≡ plan_lead first depth fuel old.seen
      by-step st =
          let one = alone-grows old new (st.entry ∷ []) st.follows alone in
          one ∙ sym (entry-leads first depth fuel old.seen st.entry st.is_step (subst (keeps first) one kept-seen))

      by-waiting : StillWaits (does_wait depth fuel) old new → new.seen ≡ plan_lead first depth fuel old.seen
      by-waiting w =
          let none = alone-stays old new w.follows alone in
          let waits = ap (λ g. does_wait depth fuel g old.seen) (agent ∙ sym w.follows.same_agent) ∙ ap (does_wait depth fuel new.agent) (sym none) ∙ w.is_waiting in
          none ∙ sym (waiting-leads first depth fuel old.seen (ap has_end (sym none) ∙ w.goes_on) waits)

      by-ended : (a : Answer) → EndStood old new ⊎ CommitsEnd (MayAnswer depth fuel) a old new → (new.seen ≡ plan_lead first depth fuel old.seen) ⊎ EndsShort IsStarved old.seen new.seen
      by-ended a (inl e) = inl (alone-stays old new e.follows alone ∙ sym (plan_stays first depth fuel old.seen e.ended))
      by-ended a (inr e) =
          by-end a e.goes_on (answered-here a e.follows.others (e.follows.are_others.none alone) e.answered)
          (alone-grows old new (End a ∷ []) e.follows alone)

      by-turn : (k : Stepped) → TurnIs depth fuel old new k → (new.seen ≡ plan_lead first depth fuel old.seen) ⊎ EndsShort IsStarved old.seen new.seen
      by-turn Step h = inl (by-step h)
      by-turn Waiting h = inl (by-waiting h)
      by-turn (Ended a) h = by-ended a h.how

      pub alone-so : (new.seen ≡ plan_lead first depth fuel old.seen) ⊎ EndsShort IsStarved old.seen new.seen
      alone-so = by-turn s t
