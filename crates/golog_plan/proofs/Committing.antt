-- What is decided after the entries so far keeps the rules of plans there, and so does what a device posts.
use Rattle.std.proofs.Common.{◌≡◌, ◌<◌, true, false, not, ◌&&◌, ◌||◌, [], ◌∷◌, ◌++◌, Some, None, inl, inr, refl, sym, ap, ◌∙◌, subst}
use Rattle.std.specs.Prelude.{IsTrue, nat_lt}
use Rattle.std.proofs.lemmas.Bool.{and_parts, ltb-true}
use Rattle.golog_tree.specs.declared.prog.Label.{Label}
use Rattle.golog_tree.specs.declared.prog.Label.TheVariants.{Quiet, Do as Doing}
use Rattle.golog_semantics.specs.declared.Mode.TheVariants.{Must}
use Rattle.golog_semantics.specs.declared.journal.Answer.{Answer}
use Rattle.golog_semantics.specs.declared.journal.Answer.TheVariants as answer
use Rattle.golog_semantics.specs.declared.journal.Entry.{Entry}
use Rattle.golog_semantics.specs.declared.journal.Entry.TheVariants.{Do, Test, Exo, Sense, Rest, Close, End}
use Rattle.golog_semantics.specs.Inline.{entry_for}
use Rattle.golog_semantics.specs.Journal.{count, has_end, is_close, is_counted, lacks_results, limit}
use Rattle.golog_semantics.specs.Online.{label_of, same_answer}
use Rattle.golog_semantics.specs.Reports.{fits_label}
use Rattle.golog_semantics.specs.Search.{final}
use Rattle.golog_journal.specs.Boards.{IsBoardList}
use Rattle.golog_journal.specs.Commits.{IsOfProgram}
use Rattle.golog_journal.specs.Leading.{is_of_program}
use Rattle.golog_journal.proofs.Lawful.{lawful-last, lawful-parts}
use Rattle.golog_branch.specs.Following.{kept_after}
use Rattle.golog_branch.specs.PlanJournals.{KeepsPlanned, is_label, label_ahead, may_end_planned, may_step_ahead, plan_answer, plan_answer_at}
use Rattle.golog_plan.specs.declared.next.Begun.{Begun}
use Rattle.golog_plan.specs.Keeping.{KeptFor, PlanCourse}
use Rattle.golog_plan.specs.Next.{IsNextOf, ahead_of, kept_of, tail_at, tail_begun, values_of}
use Rattle.golog_plan.specs.Turns.{MayAnswer}

module _ (c : PlanCourse) where
  after-so : has_end c.list ≡ false → (e : Entry) → (not (has_end c.list) || is_close e) ≡ true
  after-so h e = ap (λ b. not b || is_close e) h

  -- ---- the end

  by-answer : (a : Answer) → same_answer (Some a) a ≡ true → plan_answer c.agent c.depth c.fuel c.list ≡ Some a
      → same_answer (plan_answer_at c.agent c.depth c.fuel c.list (values_of c) (kept_of c)) a ≡ true
  unfolding plan_answer
  by-answer a same e = ap (λ o. same_answer o a) e ∙ same

  told-ends : (a : Answer) → plan_answer c.agent c.depth c.fuel c.list ≡ Some a → may_end_planned c.agent c.depth c.fuel c.list (values_of c) (kept_of c) a ≡ true
  told-ends answer.Memory e = refl
  told-ends answer.Fuel e = by-answer answer.Fuel refl e
  told-ends answer.Done e = by-answer answer.Done refl e
  told-ends answer.Stuck e = by-answer answer.Stuck refl e
  told-ends answer.Unknown e = by-answer answer.Unknown refl e
  told-ends answer.Depth e = by-answer answer.Depth refl e
  told-ends answer.Unanswered e = by-answer answer.Unanswered refl e
  told-ends answer.Full e = by-answer answer.Full refl e
  told-ends answer.Deep e = by-answer answer.Deep refl e

  may-end : (a : Answer) → MayAnswer c.depth c.fuel c.agent c.list a → may_end_planned c.agent c.depth c.fuel c.list (values_of c) (kept_of c) a ≡ true
  may-end a (inl e) = subst (λ b. may_end_planned c.agent c.depth c.fuel c.list (values_of c) (kept_of c) b ≡ true) (sym e) refl
  may-end a (inr e) = told-ends a e

  pub end-planned : (a : Answer) → has_end c.list ≡ false → MayAnswer c.depth c.fuel c.agent c.list a → KeepsPlanned c.agent c.depth c.fuel c.list (End a)
  end-planned a goes may = record { after = after-so goes (End a); poster = refl; place = refl; taken = refl; step = refl; answer = may-end a may; close = refl }

  -- ---- what a device posts

  pub device-planned : (e : Entry) → is_of_program e ≡ false → IsBoardList c.agent (c.list ++ e ∷ []) → KeepsPlanned c.agent c.depth c.fuel c.list e
  device-planned (Do a) h lawful = absurd (cc)
  device-planned Test h lawful = absurd (cc)
  device-planned (End a) h lawful = absurd (cc)
  device-planned (Exo p a) h lawful =
      let l = lawful-parts c.agent c.list (Exo p a) (lawful-last c.agent c.list (Exo p a) lawful) in
      record { after = l.after; poster = l.poster; place = l.place; taken = l.taken; step = refl; answer = refl; close = l.close }
  device-planned (Sense p at f v) h lawful =
      let l = lawful-parts c.agent c.list (Sense p at f v) (lawful-last c.agent c.list (Sense p at f v) lawful) in
      record { after = l.after; poster = l.poster; place = l.place; taken = l.taken; step = refl; answer = refl; close = l.close }
  device-planned (Rest p t) h lawful =
      let l = lawful-parts c.agent c.list (Rest p t) (lawful-last c.agent c.list (Rest p t) lawful) in
      record { after = l.after; poster = l.poster; place = l.place; taken = l.taken; step = refl; answer = refl; close = l.close }
  device-planned (Close p r t) h lawful =
      let l = lawful-parts c.agent c.list (Close p r t) (lawful-last c.agent c.list (Close p r t) lawful) in
      record { after = l.after; poster = l.poster; place = l.place; taken = l.taken; step = refl; answer = refl; close = l.close }

  -- it is no step
  pub device-given : (e : Entry) → is_of_program e ≡ false → label_of e ≡ None
  device-given (Do a) h = absurd (cc)
  device-given Test h = absurd (cc)
  device-given (End a) h = refl
  device-given (Exo p a) h = refl
  device-given (Sense p at f v) h = refl
  device-given (Rest p t) h = refl
  device-given (Close p r t) h = refl

  -- and begins no plan
  pub device-tail : (e : Entry) → is_of_program e ≡ false → None ≡ tail_at c e
  device-tail (Do a) h = absurd (cc)
  device-tail Test h = absurd (cc)
  device-tail (End a) h = refl
  device-tail (Exo p a) h = refl
  device-tail (Sense p at f v) h = refl
  device-tail (Rest p t) h = refl
  device-tail (Close p r t) h = refl

  -- ---- a step

  module _ (begun : Begun) (next : IsNextOf c begun) where
    by-label : (l : Label) → begun.label ≡ l → has_end c.list ≡ false → KeepsPlanned c.agent c.depth c.fuel c.list (entry_for l)
    by-label (Doing a) is goes = record {
      after = after-so goes (Do a);
      poster = refl;
      place = refl;
      taken = refl;
      step = ap (may_step_ahead c.agent c.depth c.fuel c.list (values_of c) (kept_of c)) (sym is) ∙ next.may;
      answer = refl;
      close = refl;
    }
    by-label Quiet is goes = record {
      after = after-so goes Test;
      poster = refl;
      place = refl;
      taken = refl;
      step = ap (may_step_ahead c.agent c.depth c.fuel c.list (values_of c) (kept_of c)) (sym is) ∙ next.may;
      answer = refl;
      close = refl;
    }

    own-label : (l : Label) → fits_label c.agent l ≡ true → IsOfProgram c.agent c.list 0 (entry_for l) (entry_for l)
    own-label (Doing a) h = h
    own-label Quiet h = tt

    tail-label : (l : Label) → tail_begun c ≡ tail_at c (entry_for l)
    tail-label (Doing a) = refl
    tail-label Quiet = refl

    module _ (e : Entry) (is : e ≡ entry_for begun.label) where
      pub step-planned : has_end c.list ≡ false → KeepsPlanned c.agent c.depth c.fuel c.list e
      step-planned goes = subst (KeepsPlanned c.agent c.depth c.fuel c.list) (sym is) (by-label begun.label refl goes)

      pub step-own : IsOfProgram c.agent c.list 0 e e
      step-own = subst (λ x. IsOfProgram c.agent c.list 0 x x) (sym is) (own-label begun.label next.own)

      pub step-room : IsTrue (is_counted e) → count c.list < limit
      step-room counted =
          let four =
          and_parts (not (lacks_results c.agent c.list) && not (final c.agent (values_of c) Must (kept_of c).left) && nat_lt (count c.list) limit)
          (is_label begun.label (label_ahead (ahead_of c))) next.may in
          ltb-true (count c.list) limit (and_parts (not (lacks_results c.agent c.list) && not (final c.agent (values_of c) Must (kept_of c).left)) (nat_lt (count c.list) limit) four.0).1

      pub step-given : KeptFor c e (Some begun.kept)
      step-given = next.kept_so ∙ ap (λ x. kept_after c.agent c.depth c.fuel (c.list ++ x ∷ [])) (sym is)

      pub step-tail : begun.tail ≡ tail_at c e
      step-tail = next.tail_so ∙ tail-label begun.label ∙ ap (tail_at c) (sym is)
