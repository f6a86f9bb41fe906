-- Tests that hold of equal values alone: what a derive makes of such tests of a type's fields.
use Rattle.std.proofs.Common.{◌≡◌, Bool, true, false, ◌&&◌, List, [], ◌∷◌, map, inl, inr}
use Rattle.std.proofs.Common.{refl, sym, ap, subst, ◌∙◌}
use Rattle.std.specs.Bool.{Decides}
use Rattle.std.specs.Cmp.Lexicographic.{pointwise}
use denote.Struct.Field.{Field}
use denote.Enum.Declared.{Record, Choice}
use denote.Enum.Compared.{Each, by}

infixr 4 ◌▹◌
-- the test of a variant, and those of the later ones
abbrev pub ◌▹◌ : {A B : Type 0} → A → B → A × B
a ▹ b = (a, b)

-- what is computed as a test that decides, decides
pub so : {P : Type 0} (b e : Bool) → b ≡ e → Decides e P → Decides b P
so b e r d = (λ t. d.0 (sym r ∙ t), λ p. r ∙ d.1 p)

pub both : {P Q : Type 0} {a b : Bool} → (a ≡ true → P) → (b ≡ true → Q) → (a && b) ≡ true → P × Q
both {a = true} f g e = (f refl, g e)
both {a = false} f g e = cc

-- the fields of a variant, from the last
pub last : {A : Type 0} {x y : A} {a : Bool}
    → (a ≡ true → x ≡ y) → a ≡ true → ◌≡◌ {A = A × Unit {0}} (x, tt) (y, tt)
last f e = λ i. (f e i, tt)

pub then : {A B : Type 0} {x y : A} {v w : B} {a b : Bool}
    → (a ≡ true → x ≡ y) → (b ≡ true → v ≡ w)
    → (a && b) ≡ true → ◌≡◌ {A = A × B} (x, v) (y, w)
then f g e = let h = both f g e in λ i. (h.0 i, h.1 i)

module _ {A : Type 0} (E : A → A → Bool) where
  -- a value that the test tells from all others
  abbrev pub Tells : A → Type 0
  Tells x = (y : A) → E x y ≡ true → x ≡ y

  abbrev pub Told : Type 0
  Told = (x : A) × Tells x

  list : (xs : List Told) (ys : List A) → pointwise E (map (λ x. x.0) xs) ys ≡ true → map (λ x. x.0) xs ≡ ys
  list [] [] e = refl
  list [] (y ∷ ys) e = cc
  list (x ∷ xs) [] e = cc
  list (x ∷ xs) (y ∷ ys) e = let h = both (x.1 y) (list xs ys) e in λ i. h.0 i ∷ h.1 i

  pub list-tells : (xs : List Told) (zs : List A) → zs ≡ map (λ x. x.0) xs
      → (ys : List A) → pointwise E zs ys ≡ true → zs ≡ ys
  list-tells xs zs r ys e = r ∙ list xs ys (subst (λ l. pointwise E l ys ≡ true) r e)

-- a choice that the tests of its variant tell from all others
abbrev pub At : (Fss : List (List Field)) → Each Bool Fss → Choice Fss → Type 0
At [] each c = ⊥
At (Fs ∷ Fss) each (inl x) = Tells each.0 x
At (Fs ∷ Fss) each (inr c) = At Fss each.1 c

choice-tells : (Fss : List (List Field)) (each : Each Bool Fss) (c d : Choice Fss) → At Fss each c
    → by false false Fss each c d ≡ true → c ≡ d
choice-tells [] each c d a e = absurd c
choice-tells (Fs ∷ Fss) each (inl x) (inl y) a e = ap inl (a y e)
choice-tells (Fs ∷ Fss) each (inl x) (inr d) a e = cc
choice-tells (Fs ∷ Fss) each (inr c) (inl y) a e = cc
choice-tells (Fs ∷ Fss) each (inr c) (inr d) a e = ap inr (choice-tells Fss each.1 c d a e)

-- a value of an enum, likewise
pub value-tells : (N : Record) (each : Each Bool N.parts) (d : N.D) → At N.parts each (N.as_values d)
    → (e : N.D) → by false false N.parts each (N.as_values d) (N.as_values e) ≡ true → d ≡ e
value-tells N each d a e t =
    sym (N.eta d) ∙ ap N.make (choice-tells N.parts each (N.as_values d) (N.as_values e) a t) ∙ N.eta e
