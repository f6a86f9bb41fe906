-- The ends of the sorts of whole numbers of a file that was read are in the range of their type.
use Rattle.std.proofs.Common.{◌≡◌, ℕ, zero, suc, ◌<◌, ◌≤◌, ◌-◌, ◌^◌, Bool, true, false, not, ◌||◌, List, [], ◌∷◌, ◌++◌, length, map, Option, Some, None, Result, refl, sym, ap, subst, ◌∙◌, arith, ℤ, pos, negsuc}
use Rattle.std.specs.Prelude.{if◌then◌else◌, codes, nat_eq, nat_le, nat_lt, slice_get, FitsSigned, ⊤}
use Rattle.std.specs.Int.{w32}
use Rattle.golog_base.specs.Numbers.{is_number, has_sign, without_sign, amount, minus, below_zero, value}
use Rattle.golog_form.specs.declared.form.Form.{Form}
use Rattle.golog_form.specs.Shape.{place_of}
use Rattle.golog_tree.specs.declared.agent.Agent.{Agent}
use Rattle.golog_tree.specs.declared.agent.SortItem.TheVariants as agent
use Rattle.golog_tree.specs.declared.draft.DraftTheory.{DraftTheory}
use Rattle.golog_tree.specs.declared.draft.DraftSort.{DraftSort}
use Rattle.golog_tree.specs.declared.draft.DraftSort.TheVariants.{Range, Listed}
use Rattle.golog_semantics.specs.Text.{Text}
use Rattle.golog_theory.specs.Reading.{gives, refused, outcome_behind, each}
use Rattle.golog_theory.specs.Names.{same}
use Rattle.golog_theory.specs.Heads.{head_word, arguments}
use Rattle.golog_theory.specs.Parts.{word, new_name, number_of}
use Rattle.golog_theory.specs.Sorts.{bound, is_above, is_too_wide, range_of, constant_of, listed_of, range_by, sort_by, sort_item}
use Rattle.golog_theory.specs.Keywords.{item_keyword}
use Rattle.golog_theory.specs.declared.keyword.ItemKeyword.{ItemKeyword}
use Rattle.golog_theory.specs.declared.keyword.ItemKeyword.TheVariants as keyword
use Rattle.golog_theory.specs.Items.{built_in, fluent_read, read_as, read_by, item_read, items_read, theory_of}
use Rattle.golog_theory.proofs.Yields.{Yields, On, gives-yields, refused-yields, row-yields, found-yields, if-yields, then-yields}
use Rattle.golog_check.specs.DeclaredItems.{sort_item as made_sort}
use Rattle.golog_file.specs.Laws.{RangesOfAgentsFit}

-- ---- numbers

chosen : (P : Type 0) (b : Bool) (one other : Option ℤ) (n : ℤ) → (if b then one else other) ≡ Some n
    → (b ≡ true → one ≡ Some n → P) → (b ≡ false → other ≡ Some n → P) → P
chosen P true one other n e h k = h refl e
chosen P false one other n e h k = k refl e

minus-fits : (m : ℕ) → m ≤ 2 ^ 31 → FitsSigned w32 (minus m)
minus-fits m h = by (nat_eq m 0)
  where
    by : (b : Bool) → FitsSigned w32 (if b then pos 0 else negsuc (m - 1))
    by true = record { sfits = omega arith }
    by false = record { sfits = omega (arith, h) }

below-fits : (m : ℕ) (n : ℤ) → below_zero m ≡ Some n → FitsSigned w32 n
below-fits m n e =
    chosen (FitsSigned w32 n) (nat_le m (2 ^ 31)) (Some (minus m)) None n e
    (λ b same. let is : minus m ≡ n = cc in subst (FitsSigned w32) is (minus-fits m (at_most m b)))
    (λ _ none. absurd cc)
  where
    at_most : (m : ℕ) → nat_le m (2 ^ 31) ≡ true → m ≤ 2 ^ 31
    at_most m b = grind arith

value-fits : (text : List ℕ) (n : ℤ) → value text ≡ Some n → FitsSigned w32 n
value-fits text n e =
    chosen (FitsSigned w32 n) (has_sign text) (below_zero (amount (without_sign text))) _ n e
    (λ _ below. below-fits (amount (without_sign text)) n below)
    (λ _ above. chosen (FitsSigned w32 n) (nat_lt (amount text) (2 ^ 31)) (Some (pos (amount text))) None n above
    (λ b same. let is : pos (amount text) ≡ n = cc in subst (FitsSigned w32) is (record { sfits = below (amount text) b }))
    (λ _ none. absurd cc))
  where
    below : (m : ℕ) → nat_lt m (2 ^ 31) ≡ true → m < 2 ^ 31
    below m b = grind arith

number-yields : (f : Form) → Yields (FitsSigned w32) (number_of f)
unfolding number_of
number-yields f =
    row-yields _ (not (is_number (word f))) (20, place_of f) _ (λ is.
    found-yields _ 26 (place_of f) (value (word f)) (value-fits (word f)))

-- ---- sorts

-- the ends of a sort of whole numbers are in range
abbrev InRange : DraftSort → Type 0
InRange (Range name low high at) = FitsSigned w32 low × FitsSigned w32 high
InRange (Listed name constants at) = ⊤

abbrev AreInRange : List DraftSort → Type 0
AreInRange [] = ⊤
AreInRange (sort ∷ sorts) = InRange sort × AreInRange sorts

pushed : (sorts : List DraftSort) (sort : DraftSort) → AreInRange sorts → InRange sort → AreInRange (sorts ++ sort ∷ [])
pushed [] sort all one = (one, tt)
pushed (first ∷ sorts) sort all one = (all.0, pushed sorts sort all.1 one)

module _ (theory : DraftTheory) where
  range-yields : (at : ℕ) (name low high : Form) → Yields InRange (range_of theory at name low high)
  unfolding range_of
  range-yields at name low high =
      row-yields _ (nat_le 64 (length theory.sorts) || is_too_wide (bound low) (bound high)) (25, at) _ (λ _.
      row-yields _ (is_above (bound low) (bound high)) (26, at) _ (λ _.
      then-yields (λ _. Unit {0}) _ (new_name theory name).outcome _ (λ x e. tt) (λ own _.
      then-yields _ _ (number_of low).outcome _ (number-yields low) (λ from fits.
      then-yields _ _ (number_of high).outcome _ (number-yields high) (λ to fits'.
      gives-yields InRange (Range own from to at) (fits, fits'))))))

  listed-yields : (at : ℕ) (name : Form) (constants : List Form) → Yields InRange (listed_of theory at name constants)
  unfolding listed_of
  listed-yields at name constants =
      row-yields _ (nat_le 64 (length theory.sorts) || nat_lt 255 (length constants)) (25, at) _ (λ _.
      then-yields (λ _. Unit {0}) _ (new_name theory name).outcome _ (λ x e. tt) (λ own _.
      then-yields (λ _. Unit {0}) _ (each (constant_of theory own) [] constants).outcome _ (λ x e. tt) (λ names _.
      gives-yields InRange (Listed own names at) tt)))

  range_by-yields : (at : ℕ) (name low : Form) (fs : List Form) → Yields InRange (range_by theory at name low fs)
  range_by-yields at name low [] = refused-yields InRange 20 at
  range_by-yields at name low (high ∷ []) = range-yields at name low high
  range_by-yields at name low (high ∷ other ∷ fs) = refused-yields InRange 20 at

  sort_by-yields : (at : ℕ) (name : Form) (fs : List Form) → Yields InRange (sort_by theory at name fs)
  sort_by-yields at name [] = refused-yields InRange 20 at
  sort_by-yields at name (f ∷ fs) =
      if-yields InRange (is_number (word f)) (range_by theory at name f fs) (listed_of theory at name (f ∷ fs))
      (λ _. range_by-yields at name f fs) (λ _. listed-yields at name (f ∷ fs))

  sort-yields : (at : ℕ) (fs : List Form) → Yields InRange (sort_item theory at fs)
  unfolding sort_item
  sort-yields at [] = refused-yields InRange 20 at
  sort-yields at (name ∷ fs) = sort_by-yields at name fs

-- ---- theories

abbrev HasRanges : DraftTheory → Type 0
HasRanges theory = AreInRange theory.sorts

module _ (theory : DraftTheory) (have : HasRanges theory) where
  -- an item that declares no sort leaves the sorts
  other-yields : {A : Type 0} (outcome : Result A (ℕ × ℕ)) (next : A → DraftTheory) → ((item : A) → HasRanges (next item)) → On HasRanges (outcome_behind outcome (λ item. gives (next item)))
  other-yields outcome next have' = then-yields (λ _. Unit {0}) HasRanges outcome (λ item. gives (next item)) (λ x e. tt) (λ item _. gives-yields HasRanges (next item) (have' item))

  read_as-yields : (at : ℕ) (own : ItemKeyword) (fs : List Form) → Yields HasRanges (read_as theory at own fs)
  unfolding read_as fluent_read
  read_as-yields at keyword.Sort fs =
      then-yields InRange _ (sort_item theory at fs).outcome _ (sort-yields theory at fs) (λ item fits. gives-yields HasRanges _ (pushed theory.sorts item have fits))
  read_as-yields at keyword.Proc fs = gives-yields HasRanges theory have
  read_as-yields at keyword.Main fs = gives-yields HasRanges theory have
  read_as-yields at own fs = other-yields _ _ (λ item. have)

  read_by-yields : (at : ℕ) (own : Option ItemKeyword) (fs : List Form) → Yields HasRanges (read_by theory at own fs)
  read_by-yields at None fs = refused-yields HasRanges 20 at
  read_by-yields at (Some own) fs = read_as-yields at own fs

items-yield : (theory : DraftTheory) → HasRanges theory → (fs : List Form) → Yields HasRanges (items_read theory fs)
items-yield theory have [] = gives-yields HasRanges theory have
items-yield theory have (f ∷ fs) =
    then-yields HasRanges HasRanges (item_read theory f).outcome (λ next. items_read next fs)
    (read_by-yields theory have (place_of f) (item_keyword (head_word f)) (arguments f)) (λ next have'. items-yield next have' fs)

built_in-has : HasRanges built_in
unfolding built_in
built_in-has = (tt, tt)

theory-yields : (f : Form) → Yields HasRanges (theory_of f)
unfolding theory_of
theory-yields f =
    row-yields HasRanges (not (same (head_word f) (codes "agent"))) (20, place_of f) (items_read built_in (arguments f)).outcome
    (λ _. items-yield built_in built_in-has (arguments f))

-- ---- agents

-- a sort of an agent is that of its theory
made : (sorts : List DraftSort) → AreInRange sorts → (sort : ℕ) (name : Text) (low high : ℤ)
    → slice_get (map made_sort sorts) sort ≡ Some (agent.Range name low high) → FitsSigned w32 low × FitsSigned w32 high
made [] all sort name low high e = absurd cc
made (Range own from to at ∷ sorts) all zero name low high e =
    let from-is : from ≡ low = cc in let to-is : to ≡ high = cc in
    (subst (FitsSigned w32) from-is all.0.0, subst (FitsSigned w32) to-is all.0.1)
made (Listed own constants at ∷ sorts) all zero name low high e = absurd cc
made (first ∷ sorts) all (suc sort) name low high e = made sorts all.1 sort name low high e

pub ranged : RangesOfAgentsFit
ranged bytes agent s sort name low high e =
    let spells = s.form_spells in
    let same : agent.sorts ≡ map made_sort spells.theory.sorts = ap (λ (a : Agent). a.sorts) spells.draft.is in
    made spells.theory.sorts (theory-yields s.form spells.theory spells.read.theory_read) sort name low high
    (sym (ap (λ sorts. slice_get sorts sort) same) ∙ e)
