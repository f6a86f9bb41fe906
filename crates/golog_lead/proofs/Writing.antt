-- What is written goes on line by line, until a write fails.
use Rattle.std.proofs.Common.{◌≡◌, ℕ, ◌+◌, ◌≤◌, Bool, true, false, [], ◌∷◌, ◌++◌, take, drop, length, length-append, Option, Some, None, Result, Ok, Err, refl, sym, ap, ◌∙◌, subst, arith}
use Rattle.std.specs.Prelude.{OnErr, OnOk, is_err}
use Rattle.std.proofs.Math.Seq.{take-add}
use Rattle.std.proofs.lemmas.List.{append-nil, take-append-le, take_at, drop_at}
use Rattle.golog_base.specs.Known.{AddsPrefix, and_then_bytes}
use Rattle.golog_base.specs.Faults.{Rose}
use Rattle.golog_base.proofs.KnownLemmas.{and_then-append}
use Rattle.golog_tree.specs.declared.agent.Agent.{Agent}
use Rattle.golog_semantics.specs.declared.journal.Entry.{Entry}
use Rattle.golog_semantics.specs.InlineText.{begun_runs}
use Rattle.golog_semantics.specs.Journal.{Journal}
use Rattle.golog_semantics.specs.Text.{Text, line_text, with_line_feed}
use Rattle.golog_lead.specs.Written.{HasWritten, IsWritten, whole_text}
use Rattle.golog_lead.proofs.WrittenLines.{whole-next, whole-none}

-- a count that has risen since later has risen since earlier
rose-since : (first before now : ℕ) → first ≤ before → Rose before now → Rose first now
rose-since first before now le rose = grind (arith, le, rose)

-- nothing is added
pub and_then-none : (was : Option Text) → and_then_bytes was [] ≡ was
and_then-none None = refl
and_then-none (Some told) = ap Some (append-nil told)

-- the first bytes of a text are those of what begins with it
pub prefix-more : (was is : Option Text) (text more : Text) → AddsPrefix was is text → AddsPrefix was is (text ++ more)
prefix-more was is text more (n, within, added) = (
  n,
  let long = length-append text more in omega (arith, within, long),
  added ∙ ap (and_then_bytes was) (sym (take-append-le n text more within)),
)

-- a text, and the first bytes of what comes behind it
pub prefix-behind : (was now is : Option Text) (text line : Text) → now ≡ and_then_bytes was text → AddsPrefix now is line → AddsPrefix was is (text ++ line)
prefix-behind was now is text line whole (n, within, added) = (
  length text + n,
  let long = length-append text line in omega (arith, within, long),
  added ∙ ap (λ t. and_then_bytes t (take n line)) whole ∙ and_then-append was text (take n line)
      ∙ ap (and_then_bytes was)
      (sym (take-add (length text) n (text ++ line) ∙ ap (λ t. t ++ take n (drop (length text) (text ++ line))) (take_at text line (length text) refl) ∙ ap (λ t. text ++ take n t) (drop_at text line (length text) refl))),
)

-- ---- what is written

pub written-as : (text same : Text) (was is : Option Text) (before after : ℕ) (faulted : Bool) → same ≡ text → IsWritten text was is before after faulted → IsWritten same was is before after faulted
written-as text same was is before after faulted e w = subst (λ t. IsWritten t was is before after faulted) (sym e) w

-- nothing
pub written-first : (text : Text) (was : Option Text) (before : ℕ) → text ≡ [] → IsWritten text was was before before false
written-first text was before none = record {
  whole = λ no. sym (ap (and_then_bytes was) none ∙ and_then-none was);
  no_fault = λ no. refl;
  cut = λ yes. absurd (cc);
  rose = λ yes. absurd (cc);
  counted = omega arith;
}

module _ (text line : Text) (was now is : Option Text) (before between after : ℕ) (so_far : IsWritten text was now before between false) (counted : between ≤ after) where
  -- a line more
  pub written-next : is ≡ and_then_bytes now line → after ≡ between → IsWritten (text ++ line) was is before after false
  written-next added still = record {
    whole = λ no. added ∙ ap (λ t. and_then_bytes t line) (so_far.whole refl) ∙ and_then-append was text line;
    no_fault = λ no. still ∙ so_far.no_fault refl;
    cut = λ yes. absurd (cc);
    rose = λ yes. absurd (cc);
    counted = let earlier = so_far.counted in omega (arith, earlier, counted);
  }

  -- a write that fails
  pub written-cut : AddsPrefix now is line → Rose between after → IsWritten (text ++ line) was is before after true
  written-cut prefix rose = record {
    whole = λ no. absurd (cc);
    no_fault = λ no. absurd (cc);
    cut = λ yes. prefix-behind was now is text line (so_far.whole refl) prefix;
    rose = λ yes. rose-since before between after so_far.counted rose;
    counted = let earlier = so_far.counted in omega (arith, earlier, counted);
  }

-- more is to be written, and nothing more is
pub written-more : (text more : Text) (was is : Option Text) (before after : ℕ) → IsWritten text was is before after true → IsWritten (text ++ more) was is before after true
written-more text more was is before after w = record {
  whole = λ no. absurd (cc);
  no_fault = λ no. absurd (cc);
  cut = λ yes. prefix-more was is text more (w.cut refl);
  rose = w.rose;
  counted = w.counted;
}

-- ---- what is written of a program's entries

module _ (agent : Agent) (was now is : Option Text) (before between after : ℕ) where
  -- nothing of nothing
  pub first-written : (journal : Journal) → is ≡ was → after ≡ before → journal ≡ [] → HasWritten agent journal was is before after false
  first-written journal same still none =
      subst (λ t. IsWritten (whole_text agent journal) was t before after false) (sym same)
      (subst (λ n. IsWritten (whole_text agent journal) was was before n false) (sym still) (written-first (whole_text agent journal) was before (whole-none agent journal none)))

  module _ (journal : Journal) (e : Entry) where
    abbrev line : Text
    line = with_line_feed agent (line_text agent (begun_runs agent (journal ++ e ∷ [])) journal e)

    -- the line of one more entry was written, or the write failed
    pub line-done : (text : Text) → text ≡ line → HasWritten agent journal was now before between false → between ≤ after
        → {T E : Type 0} (r : Result T E) → OnOk r (is ≡ and_then_bytes now text) → OnOk r (after ≡ between) → OnErr r (AddsPrefix now is text) → OnErr r (Rose between after)
        → HasWritten agent (journal ++ e ∷ []) was is before after (is_err r)
    line-done text same so_far counted (Ok x) added still prefix rose =
        written-as (whole_text agent journal ++ line) (whole_text agent (journal ++ e ∷ [])) was is before after false (whole-next agent journal e)
        (written-next (whole_text agent journal) line was now is before between after so_far counted (added ∙ ap (and_then_bytes now) same) still)
    line-done text same so_far counted (Err x) added still prefix rose =
        written-as (whole_text agent journal ++ line) (whole_text agent (journal ++ e ∷ [])) was is before after true (whole-next agent journal e)
        (written-cut (whole_text agent journal) line was now is before between after so_far counted (subst (AddsPrefix now is) same prefix) rose)

    -- nothing more is written where a write had failed
    pub line-left : HasWritten agent journal was is before after true → HasWritten agent (journal ++ e ∷ []) was is before after true
    line-left w =
        written-as (whole_text agent journal ++ line) (whole_text agent (journal ++ e ∷ [])) was is before after true (whole-next agent journal e)
        (written-more (whole_text agent journal) line was is before after w)
