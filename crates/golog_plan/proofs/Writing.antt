-- What is written of a program that follows plans goes on line by line, until a write fails.
use Rattle.std.proofs.Common.{◌≡◌, ℕ, ◌-◌, ◌≤◌, ◌<◌, false, true, [], ◌∷◌, ◌++◌, take, length, length-append, Option, Some, None, Result, Ok, Err, refl, sym, ap, ◌∙◌, subst, append_assoc, arith}
use Rattle.std.specs.Prelude.{OnErr, OnOk, codes, decimal, is_err, option_map}
use Rattle.std.specs.List.{flat_map}
use Rattle.std.proofs.lemmas.Grind.{flat_map-append}
use Rattle.std.proofs.lemmas.List.{append-nil, take_at}
use Rattle.golog_base.specs.Known.{AddsPrefix, and_then_bytes}
use Rattle.golog_base.specs.Faults.{Rose}
use Rattle.golog_semantics.specs.declared.journal.Entry.{Entry}
use Rattle.golog_semantics.specs.Journal.{Journal}
use Rattle.golog_semantics.specs.Progress.{values_after}
use Rattle.golog_semantics.specs.Text.{Text, at_each, body_text, with_line_feed}
use Rattle.golog_semantics.specs.Truth.{Values}
use Rattle.golog_semantics.proofs.Pushed.{at_each-push}
use Rattle.golog_text.specs.Filled.{full_line}
use Rattle.golog_lead.specs.Written.{IsWritten}
use Rattle.golog_lead.proofs.Writing.{prefix-behind, written-as, written-cut, written-first, written-more, written-next}
use Rattle.golog_branch.specs.declared.tree.Tree.{Tree}
use Rattle.golog_branch.specs.PlanJournals.{plan_begun}
use Rattle.golog_plan.specs.Keeping.{PlanCourse}
use Rattle.golog_plan.specs.Next.{tail_at}
use Rattle.golog_plan.specs.PlanTexts.{HasPlanned, ended_line, plan_line, plan_tail, plan_text, with_end, with_tail}

-- a line without its line feed was written, and the first bytes of its end
pub pieces-prefix : (was now is : Option Text) (line tail : Text) → now ≡ and_then_bytes was (take (length line - 1) line)
    → {T E : Type 0} (r : Result T E) → OnErr r (AddsPrefix now is tail) → OnErr r (AddsPrefix was is (with_end line tail))
pieces-prefix was now is line tail added (Ok x) prefix = prefix
pieces-prefix was now is line tail added (Err x) prefix = prefix-behind was now is (take (length line - 1) line) tail added prefix

module _ (c : PlanCourse) where
  abbrev line_of : Entry → Text
  line_of e = with_line_feed c.agent (plan_line c.agent c.depth c.fuel c.list e)

  abbrev text_of : Journal → Text
  text_of journal = plan_text c.agent c.depth c.fuel journal

  -- the line of one more entry stands behind the text
  text-next : (e : Entry) → text_of (c.list ++ e ∷ []) ≡ text_of c.list ++ line_of e
  unfolding plan_text
  text-next e =
      ap (flat_map (with_line_feed c.agent)) (at_each-push (plan_line c.agent c.depth c.fuel) c.list e)
      ∙ flat_map-append (with_line_feed c.agent) (at_each (plan_line c.agent c.depth c.fuel) [] c.list) (plan_line c.agent c.depth c.fuel c.list e ∷ [])
      ∙ ap (λ t. flat_map (with_line_feed c.agent) (at_each (plan_line c.agent c.depth c.fuel) [] c.list) ++ t) (append-nil (line_of e))

  text-none : (journal : Journal) → journal ≡ [] → text_of journal ≡ []
  unfolding plan_text
  text-none journal none = ap text_of none

  -- ---- a line and its end

  without-feed : (w : Text) → take (length (w ++ 10 ∷ []) - 1) (w ++ 10 ∷ []) ≡ w
  without-feed w =
      ap (λ n. take n (w ++ 10 ∷ [])) (let long = length-append w (10 ∷ []) in let m : length (w ++ 10 ∷ []) - 1 ≡ length w = omega (arith, long) in m)
      ∙ take_at w (10 ∷ []) (length w) refl

  tailed : (d s b : Text) (o : Option Tree) → with_tail ((d ++ s ++ b) ++ 10 ∷ []) (option_map (λ (t : Tree). ended_line (plan_tail c.agent (Some t))) o) ≡ (d ++ s ++ b ++ plan_tail c.agent o) ++ 10 ∷ []
  tailed d s b None = ap (λ x. x ++ 10 ∷ []) (sym (append-nil (d ++ s ++ b)))
  tailed d s b (Some t) =
      let p = plan_tail c.agent (Some t) in
      ap (λ w. w ++ (p ++ 10 ∷ [])) (without-feed (d ++ s ++ b)) ∙ sym (append_assoc (d ++ s ++ b) p (10 ∷ []))

  -- the line that is written
  pub line-is : (e : Entry) (place : ℕ) (values : Values) (line : Text) (tail : Option Text) → place ≡ length c.list → values ≡ values_after c.agent c.list
      → line ≡ full_line c.agent place values None e → tail ≡ tail_at c e → with_tail line tail ≡ line_of e
  line-is e place values line tail at known is ends =
      ap (λ l. with_tail l tail) (is ∙ ap (λ n. full_line c.agent n values None e) at ∙ ap (λ v. full_line c.agent (length c.list) v None e) known)
      ∙ ap (with_tail (full_line c.agent (length c.list) (values_after c.agent c.list) None e)) ends
      ∙ tailed (decimal (length c.list)) (codes " ") (body_text c.agent (values_after c.agent c.list) None e) (plan_begun c.agent c.depth c.fuel c.list e)

  -- it is not empty
  pub line-some : (e : Entry) (place : ℕ) (values : Values) (line : Text) → line ≡ full_line c.agent place values None e → 0 < length line
  line-some e place values line is =
      let w = decimal place ++ codes " " ++ body_text c.agent values None e in
      let long = ap (λ l. length l) is ∙ length-append w (10 ∷ []) in
      omega (arith, long)

  -- ---- what is written

  module _ (was now is : Option Text) (before between after : ℕ) where
    abbrev Has : Journal → Option Text → Option Text → ℕ → ℕ → Type 0
    Has journal w n b a = HasPlanned c.agent c.depth c.fuel journal w n b a false

    -- nothing of nothing
    pub first-written : (journal : Journal) → is ≡ was → after ≡ before → journal ≡ [] → HasPlanned c.agent c.depth c.fuel journal was is before after false
    first-written journal same still none =
        subst (λ t. IsWritten (text_of journal) was t before after false) (sym same)
        (subst (λ n. IsWritten (text_of journal) was was before n false) (sym still) (written-first (text_of journal) was before (text-none journal none)))

    -- the line of one more entry was written, or the write failed
    pub line-done : (e : Entry) (text : Text) → text ≡ line_of e → HasPlanned c.agent c.depth c.fuel c.list was now before between false → between ≤ after
        → {T E : Type 0} (r : Result T E) → OnOk r (is ≡ and_then_bytes now text) → OnOk r (after ≡ between) → OnErr r (AddsPrefix now is text) → OnErr r (Rose between after)
        → HasPlanned c.agent c.depth c.fuel (c.list ++ e ∷ []) was is before after (is_err r)
    line-done e text same so_far counted (Ok x) added still prefix rose =
        written-as (text_of c.list ++ line_of e) (text_of (c.list ++ e ∷ [])) was is before after false (text-next e)
        (written-next (text_of c.list) (line_of e) was now is before between after so_far counted (added ∙ ap (and_then_bytes now) same) still)
    line-done e text same so_far counted (Err x) added still prefix rose =
        written-as (text_of c.list ++ line_of e) (text_of (c.list ++ e ∷ [])) was is before after true (text-next e)
        (written-cut (text_of c.list) (line_of e) was now is before between after so_far counted (subst (AddsPrefix now is) same prefix) rose)

    -- nothing more is written where a write had failed
    pub line-left : (e : Entry) → HasPlanned c.agent c.depth c.fuel c.list was is before after true → HasPlanned c.agent c.depth c.fuel (c.list ++ e ∷ []) was is before after true
    line-left e w =
        written-as (text_of c.list ++ line_of e) (text_of (c.list ++ e ∷ [])) was is before after true (text-next e)
        (written-more (text_of c.list) (line_of e) was is before after w)
