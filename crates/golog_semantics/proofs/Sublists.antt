-- Lists whose elements stand in another list, in the same order.
use Rattle.std.proofs.Common.{◌≡◌, inl, inr, ◌≤◌, Bool, true, false, if◌then◌else◌, List, [], ◌∷◌, ◌++◌, length, map, refl, ap, ◌∙◌, arith}
use Rattle.std.specs.Prelude.{filter}
use Rattle.golog_semantics.specs.Ways.{is_empty}
use Rattle.golog_semantics.specs.Sublist.{IsSublist}

module _ {A : Type 0} where
  pub sublist-refl : (xs : List A) → IsSublist xs xs
  sublist-refl [] = tt
  sublist-refl (x ∷ xs) = inl (refl, sublist-refl xs)

  pub sublist-skip : (xs ys : List A) (y : A) → IsSublist xs ys → IsSublist xs (y ∷ ys)
  sublist-skip [] ys y h = tt
  sublist-skip (x ∷ xs) ys y h = inr h

  pub sublist-tail : (x : A) (xs ys : List A) → IsSublist (x ∷ xs) ys → IsSublist xs ys
  sublist-tail x xs [] h = absurd h
  sublist-tail x xs (y ∷ ys) (inl h) = sublist-skip xs ys y h.1
  sublist-tail x xs (y ∷ ys) (inr h) = sublist-skip xs ys y (sublist-tail x xs ys h)

  pub sublist-append : (xs ys us vs : List A) → IsSublist xs ys → IsSublist us vs → IsSublist (xs ++ us) (ys ++ vs)
  sublist-append [] [] us vs h k = k
  sublist-append [] (y ∷ ys) us vs h k = sublist-skip us (ys ++ vs) y (sublist-append [] ys us vs tt k)
  sublist-append (x ∷ xs) [] us vs h k = absurd h
  sublist-append (x ∷ xs) (y ∷ ys) us vs (inl h) k = inl (h.0, sublist-append xs ys us vs h.1 k)
  sublist-append (x ∷ xs) (y ∷ ys) us vs (inr h) k = inr (sublist-append (x ∷ xs) ys us vs h k)

  pub sublist-trans : (xs ys zs : List A) → IsSublist xs ys → IsSublist ys zs → IsSublist xs zs
  sublist-trans [] ys zs h k = tt
  sublist-trans (x ∷ xs) [] zs h k = absurd h
  sublist-trans (x ∷ xs) (y ∷ ys) [] h k = absurd k
  sublist-trans (x ∷ xs) (y ∷ ys) (z ∷ zs) (inl h) (inl k) = inl (h.0 ∙ k.0, sublist-trans xs ys zs h.1 k.1)
  sublist-trans (x ∷ xs) (y ∷ ys) (z ∷ zs) (inr h) (inl k) = inr (sublist-trans (x ∷ xs) ys zs h k.1)
  sublist-trans (x ∷ xs) (y ∷ ys) (z ∷ zs) h (inr k) = inr (sublist-trans (x ∷ xs) (y ∷ ys) zs h k)

  sublist-length : (xs ys : List A) → IsSublist xs ys → length xs ≤ length ys
  sublist-length [] ys h = omega arith
  sublist-length (x ∷ xs) [] h = absurd h
  sublist-length (x ∷ xs) (y ∷ ys) (inl h) = let k = sublist-length xs ys h.1 in omega arith
  sublist-length (x ∷ xs) (y ∷ ys) (inr h) = let k = sublist-length (x ∷ xs) ys h in omega arith

  pub sublist-both : (xs ys : List A) → IsSublist xs ys → IsSublist ys xs → xs ≡ ys
  sublist-both [] [] h k = refl
  sublist-both [] (y ∷ ys) h k = absurd k
  sublist-both (x ∷ xs) [] h k = absurd h
  sublist-both (x ∷ xs) (y ∷ ys) (inl h) (inl k) = let e = h.0 in let r = sublist-both xs ys h.1 k.1 in cc
  sublist-both (x ∷ xs) (y ∷ ys) (inl h) (inr k) = let e = h.0 in let r = sublist-both xs ys h.1 (sublist-tail y ys xs k) in cc
  sublist-both (x ∷ xs) (y ∷ ys) (inr h) k = absurd (let a = sublist-length (x ∷ xs) ys h in let b = sublist-length (y ∷ ys) (x ∷ xs) k in omega arith)

  pub sublist-empty : (xs ys : List A) → IsSublist xs ys → is_empty ys ≡ true → is_empty xs ≡ true
  sublist-empty [] ys h e = refl
  sublist-empty (x ∷ xs) [] h e = absurd h
  sublist-empty (x ∷ xs) (y ∷ ys) h e = e

  sublist-kept : (b c : Bool) (x : A) (xs ys : List A) → (b ≡ true → c ≡ true) → IsSublist xs ys → IsSublist (if b then x ∷ xs else xs) (if c then x ∷ ys else ys)
  sublist-kept true true x xs ys h k = inl (refl, k)
  sublist-kept true false x xs ys h k = absurd (cc (h refl))
  sublist-kept false true x xs ys h k = sublist-skip xs ys x k
  sublist-kept false false x xs ys h k = k

  pub sublist-filter : (f g : A → Bool) → ((x : A) → f x ≡ true → g x ≡ true) → (xs : List A) → IsSublist (filter f xs) (filter g xs)
  sublist-filter f g h [] = tt
  sublist-filter f g h (x ∷ xs) = sublist-kept (f x) (g x) x (filter f xs) (filter g xs) (h x) (sublist-filter f g h xs)

pub sublist-map : {A B : Type 0} (f : A → B) (xs ys : List A) → IsSublist xs ys → IsSublist (map f xs) (map f ys)
sublist-map f [] ys h = tt
sublist-map f (x ∷ xs) [] h = absurd h
sublist-map f (x ∷ xs) (y ∷ ys) (inl h) = inl (ap f h.0, sublist-map f xs ys h.1)
sublist-map f (x ∷ xs) (y ∷ ys) (inr h) = inr (sublist-map f (x ∷ xs) ys h)
