-- What stands in a sublist and in a range, and that a list with an element is not empty.
use Rattle.std.proofs.Common.{◌≡◌, inl, inr, ℕ, zero, suc, ◌+◌, ◌≤◌, ◌<◌, false, List, [], ◌∷◌, refl, sym, ◌∙◌, arith}
use Rattle.std.specs.List.{range_with_len}
use Rattle.std.proofs.lemmas.Bool.{cases_lt}
use Rattle.golog_semantics.specs.Ways.{is_empty}
use Rattle.golog_semantics.specs.Sublist.{IsSublist}
use Rattle.golog_semantics.proofs.Among.{Among}

module _ {A : Type 0} where
  pub among-sublist : (xs ys : List A) (x : A) → IsSublist xs ys → Among xs x → Among ys x
  among-sublist [] ys x h k = absurd k
  among-sublist (y ∷ xs) [] x h k = absurd h
  among-sublist (y ∷ xs) (z ∷ ys) x (inl h) (inl k) = inl (sym h.0 ∙ k)
  among-sublist (y ∷ xs) (z ∷ ys) x (inl h) (inr k) = inr (among-sublist xs ys x h.1 k)
  among-sublist (y ∷ xs) (z ∷ ys) x (inr h) k = inr (among-sublist (y ∷ xs) ys x h k)

  pub not_empty : (xs : List A) (x : A) → Among xs x → is_empty xs ≡ false
  not_empty [] x h = absurd h
  not_empty (y ∷ xs) x h = refl

pub among-range : (a n k : ℕ) → a ≤ k → k < a + n → Among (range_with_len a n) k
among-range a zero k h l = absurd (omega arith)
among-range a (suc n) k h l = elim (cases_lt a k) [ inl m ↦ inr (among-range (a + 1) n k (omega arith) (omega arith)) | inr m ↦ inl (omega arith) ]
