-- The elements of a list, by recursion: of maps, filters and lists joined end to end.
use Rattle.std.proofs.Common.{◌≡◌, ℕ, zero, suc, ◌<◌, Bool, true, false, ◌||◌, if◌then◌else◌, List, [], ◌∷◌, ◌++◌, length, map, filter, refl, sym, ap, ◌∙◌, subst, arith, inl, inr, ◌⊎◌, get_or, Some}
use Rattle.std.specs.Prelude.{Contains, slice_get}
use Rattle.std.specs.List.{flat_map, list_any}
use Rattle.golog_base.proofs.Bools.{or-true}

module _ {A : Type 0} where
  abbrev pub Among : List A → A → Type 0
  Among [] x = ⊥
  Among (y ∷ ys) x = (y ≡ x) ⊎ Among ys x

  among-at : (ys : List A) (k : ℕ) (x : A) → k < length ys → get_or ys k x ≡ x → Among ys x
  among-at [] k x h e = absurd (omega arith)
  among-at (y ∷ ys) zero x h e = inl e
  among-at (y ∷ ys) (suc k) x h e = inr (among-at ys k x (omega arith) e)

  pub among-contains : (ys : List A) (x : A) → Contains ys x → Among ys x
  among-contains ys x (k, h, e) = among-at ys k x h e

  pub contains-among : (ys : List A) (x : A) → Among ys x → Contains ys x
  contains-among [] x h = absurd h
  contains-among (y ∷ ys) x (inl e) = (0, omega arith, e)
  contains-among (y ∷ ys) x (inr h) = let r = contains-among ys x h in (suc r.0, (let k : r.0 < length ys = r.1 in omega arith), r.2)

  pub among-get : (ys : List A) (k : ℕ) (x : A) → slice_get ys k ≡ Some x → Among ys x
  among-get [] k x e = absurd (cc)
  among-get (y ∷ ys) zero x e = inl (cc)
  among-get (y ∷ ys) (suc k) x e = inr (among-get ys k x e)

  pub among-left : (xs ys : List A) (x : A) → Among xs x → Among (xs ++ ys) x
  among-left [] ys x h = absurd h
  among-left (y ∷ xs) ys x (inl e) = inl e
  among-left (y ∷ xs) ys x (inr h) = inr (among-left xs ys x h)

  pub among-right : (xs ys : List A) (x : A) → Among ys x → Among (xs ++ ys) x
  among-right [] ys x h = h
  among-right (y ∷ xs) ys x h = inr (among-right xs ys x h)

  pub among-either : (xs ys : List A) (x : A) → Among (xs ++ ys) x → Among xs x ⊎ Among ys x
  among-either [] ys x h = inr h
  among-either (y ∷ xs) ys x (inl e) = inl (inl e)
  among-either (y ∷ xs) ys x (inr h) = elim (among-either xs ys x h) [ inl a ↦ inl (inr a) | inr b ↦ inr b ]

  pub among-filter : (p : A → Bool) (xs : List A) (x : A) → Among (filter p xs) x → Among xs x × (p x ≡ true)
  among-filter p [] x h = absurd h
  among-filter p (y ∷ xs) x h = go (p y) refl h (among-filter p xs x)
    where
      go : (b : Bool) → p y ≡ b → Among (if b then y ∷ filter p xs else filter p xs) x → (Among (filter p xs) x → Among xs x × (p x ≡ true)) → Among (y ∷ xs) x × (p x ≡ true)
      go true k (inl e) rest = (inl e, ap p (sym e) ∙ k)
      go true k (inr g) rest = let r = rest g in (inr r.0, r.1)
      go false k g rest = let r = rest g in (inr r.0, r.1)

  pub filter-among : (p : A → Bool) (xs : List A) (x : A) → Among xs x → p x ≡ true → Among (filter p xs) x
  filter-among p [] x h k = absurd h
  filter-among p (y ∷ xs) x (inl e) k = rw (ap p e ∙ k) (inl e)
  filter-among p (y ∷ xs) x (inr h) k = go (p y) (filter-among p xs x h k)
    where
      go : (b : Bool) → Among (filter p xs) x → Among (if b then y ∷ filter p xs else filter p xs) x
      go true g = inr g
      go false g = g

  pub any-among : (p : A → Bool) (xs : List A) (x : A) → Among xs x → p x ≡ true → list_any p xs ≡ true
  any-among p [] x h k = absurd h
  any-among p (y ∷ xs) x (inl e) k = ap (λ b. b || list_any p xs) (ap p e ∙ k)
  any-among p (y ∷ xs) x (inr h) k = ap (λ b. p y || b) (any-among p xs x h k) ∙ or-true (p y)

  pub among-any : (p : A → Bool) (xs : List A) → list_any p xs ≡ true → (x : A) × (Among xs x × (p x ≡ true))
  among-any p [] h = absurd (cc)
  among-any p (y ∷ xs) h = go (p y) refl (among-any p xs)
    where
      go : (b : Bool) → p y ≡ b → (list_any p xs ≡ true → (x : A) × (Among xs x × (p x ≡ true))) → (x : A) × (Among (y ∷ xs) x × (p x ≡ true))
      go true k rest = (y, (inl refl, k))
      go false k rest = let r = rest (rw k at h) in (r.0, (inr r.1.0, r.1.1))

module _ {A B : Type 0} where
  pub among-map : (f : A → B) (xs : List A) (y : B) → Among (map f xs) y → (x : A) × (Among xs x × (f x ≡ y))
  among-map f [] y h = absurd h
  among-map f (x ∷ xs) y (inl e) = (x, (inl refl, e))
  among-map f (x ∷ xs) y (inr h) = let r = among-map f xs y h in (r.0, (inr r.1.0, r.1.1))

  pub map-among : (f : A → B) (xs : List A) (x : A) → Among xs x → Among (map f xs) (f x)
  map-among f [] x h = absurd h
  map-among f (y ∷ xs) x (inl e) = inl (ap f e)
  map-among f (y ∷ xs) x (inr h) = inr (map-among f xs x h)

  pub among-flat : (f : A → List B) (xs : List A) (y : B) → Among (flat_map f xs) y → (x : A) × (Among xs x × Among (f x) y)
  among-flat f [] y h = absurd h
  among-flat f (x ∷ xs) y h = go (among-either (f x) (flat_map f xs) y h) (among-flat f xs y)
    where
      go : Among (f x) y ⊎ Among (flat_map f xs) y → (Among (flat_map f xs) y → (z : A) × (Among xs z × Among (f z) y)) → (z : A) × (Among (x ∷ xs) z × Among (f z) y)
      go (inl a) rest = (x, (inl refl, a))
      go (inr b) rest = let r = rest b in (r.0, (inr r.1.0, r.1.1))

  pub flat-among : (f : A → List B) (xs : List A) (x : A) (y : B) → Among xs x → Among (f x) y → Among (flat_map f xs) y
  flat-among f [] x y h k = absurd h
  flat-among f (z ∷ xs) x y (inl e) k = among-left (f z) (flat_map f xs) y (subst (λ w. Among (f w) y) (sym e) k)
  flat-among f (z ∷ xs) x y (inr h) k = among-right (f z) (flat_map f xs) y (flat-among f xs x y h k)
