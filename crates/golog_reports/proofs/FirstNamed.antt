-- The one that has a text is the first that has it.
use Rattle.std.proofs.Common.{◌≡◌, ℕ, zero, suc, ◌+◌, ◌<◌, ◌≤◌, Bool, true, false, if◌then◌else◌, Option, Some, None, inl, inr, refl, sym, ap, ◌∙◌, arith, zero-add}
use Rattle.std.specs.Prelude.{find, bytes_eq, IfSome}
use Rattle.std.specs.List.{range_with_len, list_any}
use Rattle.std.specs.Cmp.Lexicographic.{same_text}
use Rattle.std.proofs.lemmas.Bool.{cases_lt}
use Rattle.std.proofs.lemmas.List.Folds.{list_any_at, list_any_none}
use Rattle.std.proofs.lemmas.List.FromFn.{length-range_with_len, get_or-range_with_len}
use Rattle.std.proofs.lemmas.Option.{same_Some}
use Rattle.golog_semantics.specs.Text.{Text}
use Rattle.golog_semantics.proofs.Levels.{same_values-same}
use Rattle.golog_ground.specs.Texts.{IsTheOne}
use Rattle.golog_reports.specs.Reads.{first_named}

module _ (p : ℕ → Bool) where
  found-some : (from count n : ℕ) → find p (range_with_len from count) ≡ Some n → (n < from + count) × (p n ≡ true)
  found-some from zero n e = absurd (cc)
  found-some from (suc count) n e = go (p from) refl e (found-some (from + 1) count n)
    where
      go : (b : Bool) → p from ≡ b → (if b then Some from else find p (range_with_len (from + 1) count)) ≡ Some n
          → (find p (range_with_len (from + 1) count) ≡ Some n → (n < from + 1 + count) × (p n ≡ true)) → (n < from + suc count) × (p n ≡ true)
      go true is e rest = let same : from ≡ n = same_Some from n e in (omega (arith, same), ap p (sym same) ∙ is)
      go false is e rest = let r = rest e in (omega (arith, r.0), r.1)

  found-none : (from count n : ℕ) → find p (range_with_len from count) ≡ None → from ≤ n → n < from + count → p n ≡ false
  found-none from zero n e most less = absurd (omega (arith, most, less))
  found-none from (suc count) n e most less = go (p from) refl e (found-none (from + 1) count n)
    where
      go : (b : Bool) → p from ≡ b → (if b then Some from else find p (range_with_len (from + 1) count)) ≡ None
          → (find p (range_with_len (from + 1) count) ≡ None → from + 1 ≤ n → n < from + 1 + count → p n ≡ false) → p n ≡ false
      go true is e rest = absurd (cc)
      go false is e rest = elim (cases_lt from n) [
        | inl more ↦ rest e (omega (arith, more)) (omega (arith, less))
        | inr same ↦ let k : n ≡ from = omega (arith, most, same) in ap p k ∙ is
      ]

  -- a test of the numbers below a count
  pub any-below : (count n : ℕ) → n < count → p n ≡ true → list_any p (range_with_len 0 count) ≡ true
  any-below count n less e =
      let long = length-range_with_len 0 count in
      list_any_at p (range_with_len 0 count) n 0 (omega (arith, less, long)) (ap p (get_or-range_with_len 0 count n 0 less ∙ zero-add n) ∙ e)

  pub none-below : (count : ℕ) → ((n : ℕ) → n < count → p n ≡ false) → list_any p (range_with_len 0 count) ≡ false
  none-below count none =
      let long = length-range_with_len 0 count in
      list_any_none p (range_with_len 0 count) (λ n d less.
      let below : n < count = omega (arith, less, long) in ap p (get_or-range_with_len 0 count n d below ∙ zero-add n) ∙ none n below)

module _ (count : ℕ) (text_of : ℕ → Text) (text : Text) where
  abbrev has_text : ℕ → Bool
  has_text n = bytes_eq (text_of n) text

  by-search : (answer found : Option ℕ) → IsTheOne answer (λ n. (n < count) × (text_of n ≡ text)) → find has_text (range_with_len 0 count) ≡ found → answer ≡ found
  by-search answer (Some n) one e =
      let r = found-some has_text 0 count n e in
      (one n).1 (omega (arith, r.0), same_text (text_of n) text (sym r.1))
  by-search None None one e = refl
  by-search (Some n) None one e =
      let w : (n < count) × (text_of n ≡ text) = (one n).0 refl in
      let no : has_text n ≡ false = found-none has_text 0 count n e (omega arith) (omega (arith, w.0)) in
      let yes : has_text n ≡ true = ap (λ t. bytes_eq t text) w.1 ∙ same_values-same text in
      absurd (cc)

  pub the_one_named : (answer : Option ℕ) → IsTheOne answer (λ n. (n < count) × (text_of n ≡ text)) → answer ≡ first_named count text_of text
  unfolding first_named
  the_one_named answer one = by-search answer (find has_text (range_with_len 0 count)) one refl

  -- what is named is below the count and has the text
  pub named-has : (n : ℕ) → first_named count text_of text ≡ Some n → (n < count) × (text_of n ≡ text)
  unfolding first_named
  named-has n e = let r = found-some has_text 0 count n e in (omega (arith, r.0), same_text (text_of n) text (sym r.1))

  pub one_below : (answer : Option ℕ) → IsTheOne answer (λ n. (n < count) × (text_of n ≡ text)) → IfSome answer (λ n. n < count)
  one_below None one = tt
  one_below (Some n) one = ((one n).0 refl).0
