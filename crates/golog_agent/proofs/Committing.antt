-- What is decided after the entries so far keeps the rules there, and so does what a device posts.
use Rattle.std.proofs.Common.{◌≡◌, ℕ, true, false, not, ◌&&◌, ◌||◌, List, [], ◌∷◌, ◌++◌, Some, inl, inr, refl, sym, ap, ◌∙◌, subst}
use Rattle.std.specs.Prelude.{nat_lt, nat_le, Contains}
use Rattle.std.proofs.lemmas.Bool.{and_from, lt-ltb, le-leb, eq-eqb}
use Rattle.std.proofs.lemmas.List.Elements.{Contains-append_left, Contains-push}
use Rattle.golog_tree.specs.declared.agent.Agent.{Agent}
use Rattle.golog_tree.specs.declared.prog.Prog.{Prog}
use Rattle.golog_tree.specs.declared.prog.Label.{Label}
use Rattle.golog_tree.specs.declared.prog.Label.TheVariants.{Quiet, Do as Doing}
use Rattle.golog_tree.specs.Nest.{nest}
use Rattle.golog_semantics.specs.declared.Mode.TheVariants.{Must}
use Rattle.golog_semantics.specs.declared.search.Move.{Move}
use Rattle.golog_semantics.specs.declared.journal.Entry.{Entry}
use Rattle.golog_semantics.specs.declared.journal.Entry.TheVariants.{Do, Test, Exo, Sense, Rest, Close, End}
use Rattle.golog_semantics.specs.declared.journal.Answer.{Answer}
use Rattle.golog_semantics.specs.declared.journal.Answer.TheVariants as answer
use Rattle.golog_semantics.specs.Search.{final, nest_limit}
use Rattle.golog_semantics.specs.Blocks.{moves}
use Rattle.golog_semantics.specs.Same.{same_label}
use Rattle.golog_semantics.specs.Heavy.{heavy}
use Rattle.golog_semantics.specs.Journal.{Journal, count, has_end, is_close, is_full, is_settled, limit}
use Rattle.golog_semantics.specs.Progress.{values_after, left_after, left_at, left_by}
use Rattle.golog_semantics.specs.Answer.{answer_after, answer_at, is_unanswered}
use Rattle.golog_semantics.specs.Reports.{fits_label}
use Rattle.golog_semantics.specs.Online.{is_first, may_end, may_step, run_of, same_answer}
use Rattle.golog_semantics.specs.FitLaws.{StepStays}
use Rattle.golog_semantics.proofs.BlocksFit.{step_stays}
use Rattle.golog_semantics.proofs.Grown.{progress_grows}
use Rattle.golog_semantics.proofs.LeftFits.{left_after-fits, procs_fit}
use Rattle.golog_journal.specs.Boards.{IsBoardList}
use Rattle.golog_journal.specs.Commits.{IsOfProgram}
use Rattle.golog_journal.specs.Leading.{is_of_program}
use Rattle.golog_journal.proofs.Lawful.{lawful-last, lawful-parts}
use Rattle.golog_lead.specs.Keeping.{KeepsRules, begun_by}
use Rattle.golog_agent.specs.Keeping.{IsUnderWay}
use Rattle.golog_agent.specs.Planned.{IsNextStep}
use Rattle.golog_semantics.specs.Inline.{entry_for}
use Rattle.golog_agent.specs.Turns.{LacksFuel, MayAnswer}
use Rattle.golog_agent.proofs.StepsKept.{no_fault}
use Rattle.golog_agent.proofs.Fueling.{never-fuel}

same_label-same : (l : Label) → same_label l l ≡ true
same_label-same Quiet = refl
same_label-same (Doing a) = eq-eqb a a refl

module _ (agent : Agent) (journal : Journal) where
  abbrev V : List ℕ
  V = values_after agent journal

  abbrev P : Prog
  P = left_after agent journal

  after-so : has_end journal ≡ false → (e : Entry) → (not (has_end journal) || is_close e) ≡ true
  after-so h e = ap (λ b. not b || is_close e) h

  -- ---- a step
  module _ (m : Move) (next : IsNextStep agent journal m) where
    first-so : is_first agent journal m.label (moves agent V Must P) ≡ true
    first-so =
        ap (is_first agent journal m.label) next.first
        ∙ and_from (same_label m.label m.label) (nat_le (nest m.left) nest_limit) (same_label-same m.label) (le-leb (nest m.left) nest_limit next.nests)

    step-so : may_step agent journal V P m.label ≡ true
    step-so =
        and_from (is_settled agent journal && not (final agent V Must P) && nat_lt (count journal) limit) (is_first agent journal m.label (moves agent V Must P))
        (and_from (is_settled agent journal && not (final agent V Must P)) (nat_lt (count journal) limit)
        (and_from (is_settled agent journal) (not (final agent V Must P)) next.settled (ap not next.not_final)) (lt-ltb (count journal) limit next.room))
        first-so

    by-label : (l : Label) → m.label ≡ l → has_end journal ≡ false → KeepsRules agent journal (entry_for l)
    by-label (Doing a) e h =
        no_fault agent journal (Do a) (after-so h (Do a)) refl refl refl (ap (may_step agent journal V P) (sym e) ∙ step-so) refl refl
    by-label Quiet e h = no_fault agent journal Test (after-so h Test) refl refl refl (ap (may_step agent journal V P) (sym e) ∙ step-so) refl refl

    pub step-online : has_end journal ≡ false → KeepsRules agent journal (entry_for m.label)
    step-online h = by-label m.label refl h

    stays : IsUnderWay agent journal → StepStays agent m
    stays u =
        step_stays agent (procs_fit agent u.formed) V Must P (left_after-fits agent u.formed journal) m
        (subst (λ ms. Contains ms m) (sym next.first) (Contains-append_left (m ∷ []) next.others m (Contains-push [] m)))

    own-label : (l : Label) → fits_label agent l ≡ true → IsOfProgram agent journal 0 (entry_for l) (entry_for l)
    own-label (Doing a) h = h
    own-label Quiet h = tt

    pub step-own : IsUnderWay agent journal → IsOfProgram agent journal 0 (entry_for m.label) (entry_for m.label)
    step-own u = own-label m.label (stays u).label

    run-label : (l : Label) → begun_by agent journal (entry_for l) ≡ m.run
    run-label (Doing a) = ap (run_of agent journal) next.first
    run-label Quiet = ap (run_of agent journal) next.first

    -- the run that begins is that of the step
    pub step-run : m.run ≡ begun_by agent journal (entry_for m.label)
    step-run = sym (run-label m.label)

    left-label : (l : Label) → left_at agent V P (entry_for l) ≡ m.left
    left-label (Doing a) = ap (left_by agent P) next.first
    left-label Quiet = ap (left_by agent P) next.first

    pub step-left : left_after agent (journal ++ entry_for m.label ∷ []) ≡ m.left
    step-left = (progress_grows agent journal (entry_for m.label)).left ∙ left-label m.label

  -- ---- the end

  by-answer : (a : Answer) → same_answer (Some a) a ≡ true → answer_after agent journal ≡ Some a → same_answer (answer_at agent journal V P) a ≡ true
  unfolding answer_after
  by-answer a same e = ap (λ o. same_answer o a) e ∙ same

  -- the answer after all entries before may be that of the end
  told-ends : (a : Answer) → answer_after agent journal ≡ Some a → may_end agent journal V P a ≡ true
  told-ends answer.Memory e = refl
  told-ends answer.Fuel e = absurd (never-fuel agent journal e)
  told-ends answer.Done e = by-answer answer.Done refl e
  told-ends answer.Stuck e = by-answer answer.Stuck refl e
  told-ends answer.Unknown e = by-answer answer.Unknown refl e
  told-ends answer.Depth e = by-answer answer.Depth refl e
  told-ends answer.Unanswered e = by-answer answer.Unanswered refl e
  told-ends answer.Full e = by-answer answer.Full refl e
  told-ends answer.Deep e = by-answer answer.Deep refl e

  -- and so may fuel, where it is lacking
  fuel-ends : (a : Answer) → LacksFuel agent journal a → may_end agent journal V P answer.Fuel ≡ true
  fuel-ends a f =
      and_from (not (is_full journal) && not (is_unanswered agent journal) && is_settled agent journal) (heavy agent V P)
      (and_from (not (is_full journal) && not (is_unanswered agent journal)) (is_settled agent journal)
      (and_from (not (is_full journal)) (not (is_unanswered agent journal)) (ap not f.not_full) (ap not f.answered)) f.settled)
      f.weighs

  may-end : (a : Answer) → MayAnswer agent journal a → may_end agent journal V P a ≡ true
  may-end a (inl e) = subst (λ b. may_end agent journal V P b ≡ true) (sym e) refl
  may-end a (inr (inl f)) = subst (λ b. may_end agent journal V P b ≡ true) (sym f.is) (fuel-ends a f)
  may-end a (inr (inr e)) = told-ends a e

  pub end-online : (a : Answer) → has_end journal ≡ false → MayAnswer agent journal a → KeepsRules agent journal (End a)
  end-online a h may = no_fault agent journal (End a) (after-so h (End a)) refl refl refl refl (may-end a may) refl

  pub end-left : (a : Answer) → left_after agent (journal ++ End a ∷ []) ≡ left_after agent journal
  end-left a = (progress_grows agent journal (End a)).left

  -- ---- what a device posts

  pub device-online : (e : Entry) → is_of_program e ≡ false → IsBoardList agent (journal ++ e ∷ []) → KeepsRules agent journal e
  device-online (Do a) h lawful = absurd (cc)
  device-online Test h lawful = absurd (cc)
  device-online (End a) h lawful = absurd (cc)
  device-online (Exo p a) h lawful =
      let l = lawful-parts agent journal (Exo p a) (lawful-last agent journal (Exo p a) lawful) in
      no_fault agent journal (Exo p a) l.after l.poster l.place l.taken refl refl l.close
  device-online (Sense p at f v) h lawful =
      let l = lawful-parts agent journal (Sense p at f v) (lawful-last agent journal (Sense p at f v) lawful) in
      no_fault agent journal (Sense p at f v) l.after l.poster l.place l.taken refl refl l.close
  device-online (Rest p t) h lawful =
      let l = lawful-parts agent journal (Rest p t) (lawful-last agent journal (Rest p t) lawful) in
      no_fault agent journal (Rest p t) l.after l.poster l.place l.taken refl refl l.close
  device-online (Close p r t) h lawful =
      let l = lawful-parts agent journal (Close p r t) (lawful-last agent journal (Close p r t) lawful) in
      no_fault agent journal (Close p r t) l.after l.poster l.place l.taken refl refl l.close

  pub device-left : (e : Entry) → is_of_program e ≡ false → left_after agent (journal ++ e ∷ []) ≡ left_after agent journal
  device-left (Do a) h = absurd (cc)
  device-left Test h = absurd (cc)
  device-left (End a) h = absurd (cc)
  device-left (Exo p a) h = (progress_grows agent journal (Exo p a)).left
  device-left (Sense p at f v) h = (progress_grows agent journal (Sense p at f v)).left
  device-left (Rest p t) h = (progress_grows agent journal (Rest p t)).left
  device-left (Close p r t) h = (progress_grows agent journal (Close p r t)).left
