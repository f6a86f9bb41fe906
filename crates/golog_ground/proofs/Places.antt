-- The place of a name in a list.
use Rattle.std.proofs.Common.{◌≡◌, ℕ, ◌<◌, ◌≤◌, Bool, true, false, cond, ltb, List, [], ◌∷◌, length, get_or, Some, None, inl, inr, refl, sym, ap, ◌∙◌, subst, arith}
use Rattle.std.specs.Prelude.{slice_get, unwrap_or, nat_eq, position}
use Rattle.std.specs.List.{position_or_len}
use Rattle.std.specs.Cmp.Lexicographic.{pointwise, same_text}
use Rattle.std.proofs.lemmas.Bool.{cases_lt, lt-ltb, ltb-true}
use Rattle.std.proofs.lemmas.Option.{slice_get-get_or, slice_get_read, slice_get_past, slice_get_within, get_or_from_slice_get}
use Rattle.std.proofs.lemmas.List.Quantifiers.{position-Some}
use Rattle.std.proofs.lemmas.List.Sums.{fails_before_first}
use Rattle.golog_semantics.specs.Text.{Text}
use Rattle.golog_semantics.specs.ReportLaws.{AreDistinctNames}
use Rattle.golog_semantics.proofs.Levels.{same_values-same}
use Rattle.golog_semantics.proofs.Names.{name_at, named_same}
use Rattle.golog_ground.specs.Texts.{IsTheOne, IsUnmarked}
use Rattle.golog_ground.proofs.Answers.{none-fits, only-fits}
use Rattle.golog_ground.proofs.Marks.{unmarked-name}

past : (a n : ℕ) → cond (ltb a n) (Some a) None ≡ None → n ≤ a
past a n e = elim (cases_lt a n) [ inl l ↦ let k : Some a ≡ None = rw (lt-ltb a n l) at e in absurd (cc) | inr g ↦ g ]

module _ {T : Type 0} (found items : List T) (i : ℕ) where
  -- what a look-up in a list tells
  pub is-at : (item : T) → found ≡ items → true ≡ ltb i (length found) → item ≡ get_or found i item → Some item ≡ slice_get items i
  is-at item e h k =
      sym (slice_get_read found (length found) i item refl (ltb-true i (length found) (sym h)) k) ∙ ap (λ xs. slice_get xs i) e

  pub is-past : found ≡ items → length found ≤ i → None ≡ slice_get items i
  is-past e h = sym (slice_get_past found i h) ∙ ap (λ xs. slice_get xs i) e

module _ {T : Type 0} (passes : T → Bool) where
  -- an item that passes stands at a place
  pub record PassesAt (items : List T) (i : ℕ) : Type 0 where
    pub item : T
    pub is : slice_get items i ≡ Some item
    pub fits : passes item ≡ true

  pub place-found : (items : List T) (i : ℕ) → Some i ≡ position passes items → PassesAt items i
  place-found [] i e = absurd (cc)
  place-found (x ∷ items) i e =
      let k = position-Some passes (x ∷ items) i x (sym e) in
      record { item = get_or (x ∷ items) i x; is = slice_get-get_or (x ∷ items) i x k.0; fits = k.1 }

  pub no-place : (items : List T) → None ≡ position passes items → (i : ℕ) (item : T) → slice_get items i ≡ Some item → passes item ≡ false
  no-place items e i item k =
      let n : length items ≤ position_or_len passes items = past (position_or_len passes items) (length items) (sym e) in
      let l : i < length items = slice_get_within items i item k in
      subst (λ x. passes x ≡ false) (get_or_from_slice_get items i item item k) (fails_before_first passes items i item (omega arith))

module _ (names : List Text) (apart : AreDistinctNames names) where
  abbrev at : ℕ → Text
  at v = unwrap_or (slice_get names v) []

  pub unmarked-names : (v : ℕ) → v < length names → IsUnmarked (at v)
  unmarked-names v h = let r = name_at names v h in
      subst (λ o. IsUnmarked (unwrap_or o [])) (sym r.is) (unmarked-name r.name (apart.named v r.name r.is))

  module _ (bytes : Text) where
    abbrev Writes : ℕ → Type 0
    Writes v = (v < length names) × (at v ≡ bytes)

    pub the-name : (i : ℕ) → Some i ≡ position (λ name. pointwise nat_eq name bytes) names → IsTheOne (Some i) Writes
    the-name i e =
        let r = place-found (λ name. pointwise nat_eq name bytes) names i e in
        let is : at i ≡ bytes = ap (λ o. unwrap_or o []) r.is ∙ same_text r.item bytes (sym r.fits) in
        let l : i < length names = slice_get_within names i r.item r.is in
        only-fits Writes i (l, is) (λ v w. named_same names apart i v l w.0 (is ∙ sym w.1))

    pub no-name : None ≡ position (λ name. pointwise nat_eq name bytes) names → IsTheOne None Writes
    no-name e = none-fits Writes (λ v w.
        let r = name_at names v w.0 in
        let is : r.name ≡ bytes = ap (λ o. unwrap_or o []) (sym r.is) ∙ w.1 in
        let f : pointwise nat_eq r.name bytes ≡ false = no-place (λ name. pointwise nat_eq name bytes) names e v r.name r.is in
        let g : pointwise nat_eq r.name bytes ≡ true = ap (pointwise nat_eq r.name) (sym is) ∙ same_values-same r.name in absurd (cc))
