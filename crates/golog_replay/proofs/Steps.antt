-- Whether an entry is the first certain step, by what the program does next.
use Rattle.std.proofs.Common.{◌≡◌, ℕ, ◌≤◌, ◌<◌, Bool, true, false, not, ◌&&◌, if◌then◌else◌, List, [], ◌∷◌, ◌++◌, Some, None, ◌⊎◌, inl, inr, refl, sym, ap, ◌∙◌}
use Rattle.std.specs.Prelude.{nat_le, nat_lt}
use Rattle.std.specs.Option.{option_map_or}
use Rattle.std.proofs.lemmas.Bool.{and_parts, cases_lt, lt-ltb, le-leb, le-ltb, lt-leb}
use Rattle.golog_base.proofs.Bools.{and-false}
use Rattle.golog_tree.specs.declared.agent.Agent.{Agent}
use Rattle.golog_tree.specs.declared.prog.Prog.{Prog}
use Rattle.golog_tree.specs.declared.prog.Label.{Label}
use Rattle.golog_tree.specs.declared.prog.Label.TheVariants.{Do as Doing}
use Rattle.golog_tree.specs.Nest.{nest}
use Rattle.golog_semantics.specs.declared.Mode.TheVariants.{Must}
use Rattle.golog_semantics.specs.declared.search.Move.{Move}
use Rattle.golog_semantics.specs.declared.journal.Entry.{Entry}
use Rattle.golog_semantics.specs.declared.journal.Entry.TheVariants.{Do, Test, Exo, Sense, Rest, Close, End}
use Rattle.golog_semantics.specs.Blocks.{moves}
use Rattle.golog_semantics.specs.Journal.{Journal, count, is_full, is_settled, limit}
use Rattle.golog_semantics.specs.Progress.{left_after, left_at, left_by, values_after}
use Rattle.golog_semantics.specs.Same.{same_label}
use Rattle.golog_semantics.specs.Search.{final, nest_limit}
use Rattle.golog_semantics.specs.Online.{run_begun, is_first, keeps_answer, keeps_close, keeps_step, label_of, may_step, run_of}
use Rattle.golog_semantics.specs.ProgFits.{fits}
use Rattle.golog_semantics.specs.WellFormed.{WellFormed}
use Rattle.golog_semantics.proofs.LeftFits.{left_after-fits}
use Rattle.golog_semantics.proofs.Pushed.{left_after-push}
use Rattle.golog_search.specs.declared.decision.Blocked.{Blocked}
use Rattle.golog_search.specs.declared.decision.Decision.{Decision}
use Rattle.golog_search.specs.declared.decision.Decision.TheVariants.{Final, Step, Deep}
use Rattle.golog_search.specs.Decided.{decision, along}
use Rattle.golog_replay.specs.Courses.{IsStep}

-- nothing to go on with where a result is awaited or the journal is full
module _ (agent : Agent) (journal : Journal) where
  abbrev values : List ℕ
  values = values_after agent journal

  abbrev p : Prog
  p = left_after agent journal

  abbrev fits-in : Bool → Bool → Bool → List Move → Label → Bool
  fits-in settled ends room steps label = settled && not ends && room && is_first agent journal label steps

  of-label : (e : Entry) (label : Label) → label_of e ≡ Some label → keeps_step agent journal values p e ≡ may_step agent journal values p label
  of-label e label h = ap (λ o. option_map_or (may_step agent journal values p) o true) h

  room-by : (b : Bool) → is_full journal ≡ b → nat_lt (count journal) limit ≡ not b
  room-by b h = go (cases_lt (count journal) limit) b h
    where
      go : (count journal < limit) ⊎ (limit ≤ count journal) → (b : Bool) → is_full journal ≡ b → nat_lt (count journal) limit ≡ not b
      go (inl low) b h = lt-ltb (count journal) limit low ∙ ap not (sym (lt-leb limit (count journal) low) ∙ h)
      go (inr high) b h = le-ltb (count journal) limit high ∙ ap not (sym (le-leb limit (count journal) high) ∙ h)

  pub full-breaks : (e : Entry) (label : Label) → label_of e ≡ Some label → is_full journal ≡ true → keeps_step agent journal values p e ≡ false
  full-breaks e label is full =
      of-label e label is
      ∙ ap (λ b. fits-in (is_settled agent journal) (final agent values Must p) b (moves agent values Must p) label) (room-by true full)
      ∙ ap (λ b. b && is_first agent journal label (moves agent values Must p)) (and-false (is_settled agent journal && not (final agent values Must p)))

  pub awaited-breaks : (e : Entry) (label : Label) → label_of e ≡ Some label → is_settled agent journal ≡ false → keeps_step agent journal values p e ≡ false
  awaited-breaks e label is awaits =
      of-label e label is
      ∙ ap (λ b. fits-in b (final agent values Must p) (nat_lt (count journal) limit) (moves agent values Must p) label) awaits

  abbrev by : Bool → List Move → Decision
  by ends steps = if ends then Final else along agent values p steps

  no-step : (d : Decision) (ends room settled : Bool) (steps : List Move) (label : Label) → d ≡ by ends steps → ((m : Move) → d ≡ Step m → ⊥) → fits-in settled ends room steps label ≡ false
  no-step d true room settled steps label is none =
      ap (λ b. b && room && is_first agent journal label steps) (and-false settled)
  no-step d false room settled [] label is none = and-false (settled && true && room)
  no-step d false room settled (m ∷ ms) label is none = go (cases_lt nest_limit (nest m.left))
    where
      go : (nest_limit < nest m.left) ⊎ (nest m.left ≤ nest_limit) → fits-in settled false room (m ∷ ms) label ≡ false
      go (inl deep) =
          ap (λ b. settled && true && room && (same_label label m.label && b)) (lt-leb (nest m.left) nest_limit deep)
          ∙ ap (λ b. settled && true && room && b) (and-false (same_label label m.label)) ∙ and-false (settled && true && room)
      go (inr fine) = absurd (none m (is ∙ ap (λ b. if b then Deep else Step m) (le-ltb nest_limit (nest m.left) fine)))

  record First (step : Move) (ends : Bool) (steps : List Move) : Type 0 where
    going : ends ≡ false
    later : List Move
    first : steps ≡ step ∷ later
    shallow : nat_le (nest step.left) nest_limit ≡ true

  first-of : (step : Move) (ends : Bool) (steps : List Move) → Step step ≡ by ends steps → First step ends steps
  first-of step true steps is = absurd (cc)
  first-of step false [] is = absurd (cc)
  first-of step false (m ∷ ms) is = go (cases_lt nest_limit (nest m.left))
    where
      go : (nest_limit < nest m.left) ⊎ (nest m.left ≤ nest_limit) → First step false (m ∷ ms)
      go (inl deep) = absurd (let k : Step step ≡ Deep = is ∙ ap (λ b. if b then Deep else Step m) (lt-ltb nest_limit (nest m.left) deep) in cc)
      go (inr fine) =
          let k : Step step ≡ Step m = is ∙ ap (λ b. if b then Deep else Step m) (le-ltb nest_limit (nest m.left) fine) in
          let same : m ≡ step = cc in
          record {
            going = refl;
            later = ms;
            first = ap (λ x. x ∷ ms) same;
            shallow = ap (λ (x : Move). nat_le (nest x.left) nest_limit) (sym same) ∙ le-leb (nest m.left) nest_limit fine;
          }

  decided : decision agent values p ≡ by (final agent values Must p) (moves agent values Must p)
  unfolding decision
  decided = refl

  pub other-breaks : (e : Entry) (label : Label) (d : Decision) → label_of e ≡ Some label → d ≡ decision agent values p → ((m : Move) → d ≡ Step m → ⊥) → keeps_step agent journal values p e ≡ false
  other-breaks e label d is same none =
      of-label e label is
      ∙ no-step d (final agent values Must p) (nat_lt (count journal) limit) (is_settled agent journal) (moves agent values Must p) label (same ∙ decided) none

  module _ (e : Entry) (label : Label) (step : Move) (is : label_of e ≡ Some label) (same : Step step ≡ decision agent values p) where
    its : First step (final agent values Must p) (moves agent values Must p)
    its = first-of step (final agent values Must p) (moves agent values Must p) (same ∙ decided)

    by-label : (b : Bool) → same_label label step.label ≡ b → is_first agent journal label (moves agent values Must p) ≡ (b && true)
    by-label b h =
        ap (is_first agent journal label) its.first
        ∙ ap (λ x. same_label label step.label && x) its.shallow ∙ ap (λ x. x && true) h

    pub another-breaks : same_label label step.label ≡ false → keeps_step agent journal values p e ≡ false
    another-breaks h =
        of-label e label is
        ∙ ap (λ b. is_settled agent journal && not (final agent values Must p) && nat_lt (count journal) limit && b) (by-label false h)
        ∙ and-false (is_settled agent journal && not (final agent values Must p) && nat_lt (count journal) limit)

    pub steps-so : same_label label step.label ≡ true → is_settled agent journal ≡ true → is_full journal ≡ false → IsStep agent journal e step
    steps-so h settled full = record {
      label = label;
      is_step = is;
      kept =
          of-label e label is
          ∙ ap (λ b. b && not (final agent values Must p) && nat_lt (count journal) limit && is_first agent journal label (moves agent values Must p)) settled
          ∙ ap (λ b. true && not b && nat_lt (count journal) limit && is_first agent journal label (moves agent values Must p)) its.going
          ∙ ap (λ b. true && true && b && is_first agent journal label (moves agent values Must p)) (room-by false full)
          ∙ by-label true h;
      later = its.later;
      first = its.first;
    }

  -- what is so of a step, and of what is none

  pub at-step : (e : Entry) (label : Label) → label_of e ≡ Some label
      → (keeps_answer agent journal values p e ≡ true) × (keeps_close agent journal e ≡ true)
      × (left_at agent values p e ≡ left_by agent p (moves agent values Must p))
  at-step (Do action) label h = (refl, refl, refl)
  at-step Test label h = (refl, refl, refl)
  at-step (Exo poster action) label h = absurd (cc)
  at-step (Sense poster place fluent value) label h = absurd (cc)
  at-step (Rest poster taken) label h = absurd (cc)
  at-step (Close poster reason taken) label h = absurd (cc)
  at-step (End answer) label h = absurd (cc)

  pub begins : (e : Entry) (step : Move) → IsStep agent journal e step → run_begun agent journal values p e ≡ step.run
  begins e step is =
      ap (λ o. option_map_or (λ label. run_of agent journal (moves agent values Must p)) o None) is.is_step ∙ ap (run_of agent journal) is.first

  pub begins-none : (e : Entry) → label_of e ≡ None → run_begun agent journal values p e ≡ None
  begins-none e h = ap (λ o. option_map_or (λ label. run_of agent journal (moves agent values Must p)) o None) h

  pub no-step-keeps : (e : Entry) → label_of e ≡ None → keeps_step agent journal values p e ≡ true
  no-step-keeps e h = ap (λ o. option_map_or (may_step agent journal values p) o true) h

  left-at-other : (e : Entry) → label_of e ≡ None → left_at agent values p e ≡ p
  left-at-other (Do action) h = absurd (cc)
  left-at-other Test h = absurd (cc)
  left-at-other (Exo poster action) h = refl
  left-at-other (Sense poster place fluent value) h = refl
  left-at-other (Rest poster taken) h = refl
  left-at-other (Close poster reason taken) h = refl
  left-at-other (End answer) h = refl

  pub step-leaves : (e : Entry) (step : Move) → IsStep agent journal e step → left_after agent (journal ++ e ∷ []) ≡ step.left
  step-leaves e step is =
      left_after-push agent journal e ∙ (at-step e is.label is.is_step).2 ∙ ap (left_by agent p) is.first

  pub other-leaves : (e : Entry) → label_of e ≡ None → left_after agent (journal ++ e ∷ []) ≡ p
  other-leaves e h = left_after-push agent journal e ∙ left-at-other e h

  -- an action is done only where no result is to come
  pub step-settled : (e : Entry) → keeps_step agent journal values p e ≡ true → (action : ℕ) → e ≡ Do action → is_settled agent journal ≡ true
  step-settled e keeps action is =
      let h : may_step agent journal values p (Doing action) ≡ true = ap (keeps_step agent journal values p) (sym is) ∙ keeps in
      (and_parts (is_settled agent journal) _ (and_parts _ _ (and_parts _ _ h).0).0).0

-- the program left fits
pub left-fits : (agent : Agent) (journal : Journal) (p : Prog) → WellFormed agent → p ≡ left_after agent journal → fits agent p ≡ true
left-fits agent journal p formed is = ap (fits agent) is ∙ left_after-fits agent formed journal
