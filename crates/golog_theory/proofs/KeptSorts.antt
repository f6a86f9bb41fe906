-- A sort that was read: what it lists, its place, and that its names are new.
use Rattle.std.proofs.Common.{◌≡◌, ℕ, ◌+◌, ◌<◌, suc, not, ◌&&◌, ◌||◌, List, [], ◌∷◌, length, Option, Some, ℤ, true, false, refl, sym, ap, ◌∙◌, arith}
use Rattle.std.specs.Prelude.{nat_le, nat_lt, int_lt, ◌+ℤ◌, pos}
use Rattle.std.specs.List.{IsDistinct}
use Rattle.golog_base.specs.Numbers.{is_number, value}
use Rattle.golog_form.specs.declared.form.Form.{Form}
use Rattle.golog_form.specs.Shape.{place_of}
use Rattle.golog_tree.specs.declared.draft.DraftTheory.{DraftTheory}
use Rattle.golog_tree.specs.declared.draft.DraftSort.{DraftSort}
use Rattle.golog_tree.specs.declared.draft.DraftSort.TheVariants.{Range, Listed}
use Rattle.golog_draft.specs.DraftPlaces.{sort_place}
use Rattle.golog_theory.specs.Reading.{each}
use Rattle.golog_theory.specs.Parts.{word, new_name, number_of}
use Rattle.golog_theory.specs.Sorts.{bound, is_above, is_too_wide, range_of, constant_of, listed_of, range_by, sort_by, sort_item}
use Rattle.golog_draft.specs.Drafts.{draft_sort_names, draft_sort_keeps}
use Rattle.golog_theory.proofs.Yields.{Yields, gives-yields, refused-yields, row-yields, found-yields, if-yields, then-yields, each-yields}
use Rattle.golog_semantics.proofs.Tests.{neither_first, neither_second}
use Rattle.golog_theory.proofs.Kept.{not_true, new_name-yields}
use Rattle.golog_theory.proofs.NewNames.{AreNew, one-new, AreBefore, constant_of-new}

pub record SortFits (theory : DraftTheory) (at : ℕ) (item : DraftSort) : Type 0 where
  pub keeps : draft_sort_keeps item ≡ true
  pub few : length theory.sorts < 64
  pub new : AreNew theory (draft_sort_names item)
  pub placed : sort_place item ≡ at

number_of-yields : (f : Form) → Yields (λ n. bound f ≡ Some n) (number_of f)
unfolding number_of
number_of-yields f =
    row-yields _ (not (is_number (word f))) (20, place_of f) _ (λ is.
    found-yields _ 26 (place_of f) (value (word f)) (λ n e. rw (not_true (is_number (word f)) is, e) refl))

range-keeps : (one other : Option ℤ) (low high : ℤ) (name : List ℕ) (at : ℕ) → one ≡ Some low → other ≡ Some high
    → is_too_wide one other ≡ false → is_above one other ≡ false → draft_sort_keeps (Range name low high at) ≡ true
range-keeps one other low high name at e f wide above =
    let wide' : not (int_lt high (low +ℤ pos 255)) ≡ false = sym (ap (λ o. is_too_wide (Some low) o) f) ∙ sym (ap (λ o. is_too_wide o other) e) ∙ wide in
    let above' : int_lt high low ≡ false = sym (ap (λ o. is_above (Some low) o) f) ∙ sym (ap (λ o. is_above o other) e) ∙ above in
    rw (above', not_true (int_lt high (low +ℤ pos 255)) wide') refl

is_less : (n : ℕ) → nat_le 64 n ≡ false → n < 64
is_less n e = grind arith

module _ (theory : DraftTheory) (at : ℕ) where
  abbrev Fits : DraftSort → Type 0
  Fits item = SortFits theory at item

  range_of-yields : (name low high : Form) → Yields Fits (range_of theory at name low high)
  unfolding range_of
  range_of-yields name low high =
      row-yields _ (nat_le 64 (length theory.sorts) || is_too_wide (bound low) (bound high)) (25, at) _ (λ few.
      row-yields _ (is_above (bound low) (bound high)) (26, at) _ (λ above.
      then-yields _ _ (new_name theory name).outcome _ (new_name-yields theory name) (λ name' named.
      then-yields _ _ (number_of low).outcome _ (number_of-yields low) (λ low' e.
      then-yields _ _ (number_of high).outcome _ (number_of-yields high) (λ high' e'.
      gives-yields Fits (Range name' low' high' at) (record {
        keeps = range-keeps (bound low) (bound high) low' high' name' at e e' (neither_second (nat_le 64 (length theory.sorts)) (is_too_wide (bound low) (bound high)) few) above;
        few = is_less (length theory.sorts) (neither_first (nat_le 64 (length theory.sorts)) (is_too_wide (bound low) (bound high)) few);
        new = one-new theory name' named;
        placed = refl;
      }))))))

  listed_of-yields : (name first : Form) (others : List Form) → Yields Fits (listed_of theory at name (first ∷ others))
  unfolding listed_of IsDistinct
  listed_of-yields name first others =
      row-yields _ (nat_le 64 (length theory.sorts) || nat_lt 255 (length (first ∷ others))) (25, at) _ (λ few.
      then-yields _ _ (new_name theory name).outcome _ (new_name-yields theory name) (λ own named.
      then-yields (λ names. AreBefore theory own names × (length names ≡ 0 + length (first ∷ others))) _ (each (constant_of theory own) [] (first ∷ others)).outcome _
      (each-yields (AreBefore theory own) (constant_of theory own) (λ before part held. constant_of-new theory own before part held) [] (first ∷ others)
      (record { each_is = tt; differ = (tt, tt) })) (λ names all.
      gives-yields Fits (Listed own names at) (record {
        keeps = counts (length names) (length others) (omega (arith, all.1)) (neither_second (nat_le 64 (length theory.sorts)) (nat_lt 255 (length (first ∷ others))) few);
        few = is_less (length theory.sorts) (neither_first (nat_le 64 (length theory.sorts)) (nat_lt 255 (length (first ∷ others))) few);
        new = record { each_is = (named, all.0.each_is); differ = all.0.differ };
        placed = refl;
      }))))
    where
      counts : (n m : ℕ) → n ≡ suc m → nat_lt 255 (suc m) ≡ false → (nat_lt 0 n && nat_le n 255) ≡ true
      counts n m same e =
          let some : nat_lt 0 n ≡ true = grind arith in
          let few : nat_le n 255 ≡ true = grind arith in
          rw (some, few) refl

  range_by-yields : (name low : Form) (fs : List Form) → Yields Fits (range_by theory at name low fs)
  range_by-yields name low [] = refused-yields Fits 20 at
  range_by-yields name low (high ∷ []) = range_of-yields name low high
  range_by-yields name low (high ∷ other ∷ fs) = refused-yields Fits 20 at

  sort_by-yields : (name : Form) (fs : List Form) → Yields Fits (sort_by theory at name fs)
  sort_by-yields name [] = refused-yields Fits 20 at
  sort_by-yields name (f ∷ fs) =
      if-yields Fits (is_number (word f)) (range_by theory at name f fs) (listed_of theory at name (f ∷ fs))
      (λ is. range_by-yields name f fs) (λ is. listed_of-yields name f fs)

  pub sort_item-yields : (fs : List Form) → Yields Fits (sort_item theory at fs)
  unfolding sort_item
  sort_item-yields [] = refused-yields Fits 20 at
  sort_item-yields (name ∷ fs) = sort_by-yields name fs

pub ruleset laws = (sort_item-yields)
