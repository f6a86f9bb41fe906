-- A name is found where it stands among names that are declared once.
use Rattle.std.proofs.Common.{◌≡◌, ℕ, zero, suc, ◌+◌, ◌<◌, Bool, true, false, not, List, [], ◌∷◌, length, map, Some, refl, sym, ap, subst, ◌∙◌, arith}
use Rattle.std.specs.Prelude.{if◌then◌else◌, nat_lt, slice_get, position}
use Rattle.std.specs.List.{AllByRecursion, IsDistinct, position_or_len}
use Rattle.std.proofs.lemmas.Option.{slice_get_within}
use Rattle.std.proofs.lemmas.Cmp.{nat_list_eq_equiv}
use Rattle.golog_semantics.specs.Text.{Text}
use Rattle.golog_semantics.specs.BuiltIn.{same_text}
use Rattle.golog_semantics.proofs.GroundNumbers.{some-same}
use Rattle.golog_semantics.proofs.Levels.{same_values-same}

all-get : (P : Text → Type 0) (xs : List Text) (i : ℕ) (x : Text) → AllByRecursion P xs → slice_get xs i ≡ Some x → P x
all-get P [] i x a e = absurd cc
all-get P (y ∷ xs) zero x a e = subst P (some-same y x e) a.0
all-get P (y ∷ xs) (suc i) x a e = all-get P xs i x a.1 e

first-at : (names : List Text) (i : ℕ) (name : Text) → IsDistinct same_text names → slice_get names i ≡ Some name → position_or_len (same_text name) names ≡ i
unfolding IsDistinct
first-at [] i name d e = absurd cc
first-at (x ∷ names) zero name d e =
    let here : same_text name x ≡ true = ap (λ y. same_text y x) (sym (some-same x name e)) ∙ same_values-same x in rw here refl
first-at (x ∷ names) (suc i) name d e =
    let other : same_text x name ≡ false = all-get (λ y. same_text x y ≡ false) names i name d.0 e in
    let flipped : same_text name x ≡ false = nat_list_eq_equiv.symm name x ∙ other in
    rw (flipped, first-at names i name d.1 e) (omega arith)

pub found-at : (names : List Text) (i : ℕ) (name : Text) → IsDistinct same_text names → slice_get names i ≡ Some name → position (same_text name) names ≡ Some i
found-at names i name d e =
    let within : i < length names = slice_get_within names i name e in
    let below : nat_lt i (length names) ≡ true = grind arith in
    rw (first-at names i name d e, below) refl

-- the place among items is that among what is made of them
pub position-map : {X : Type 0} (p : Text → Bool) (f : X → Text) (xs : List X) → position p (map f xs) ≡ position (λ x. p (f x)) xs
position-map {X} p f xs = rw (prefix xs, long xs) refl
  where
    prefix : (xs : List X) → position_or_len p (map f xs) ≡ position_or_len (λ x. p (f x)) xs
    prefix [] = refl
    prefix (x ∷ xs) = ap (λ n. if not (p (f x)) then 1 + n else 0) (prefix xs)

    long : (xs : List X) → length (map f xs) ≡ length xs
    long [] = refl
    long (x ∷ xs) = ap suc (long xs)

pub ruleset laws = (found-at)
