-- What holds of the value of a part, where it has one: by the same combinators as golog_rows'
-- `Chain`.
use Rattle.std.proofs.Common.{◌≡◌, ℕ, ◌+◌, length, Bool, true, false, List, [], ◌∷◌, ◌++◌, Option, Some, None, Result, Ok, Err, refl, sym, ap, subst, arith}
use Rattle.std.proofs.lemmas.List.{length_push}
use Rattle.std.specs.Prelude.{if◌then◌else◌}
use Rattle.golog_theory.specs.Reading.{Reading, gives, refused, row, unless, outcome_behind, found, each}

-- where there is a value, this holds of it
abbrev pub On : {A : Type 0} → (A → Type 0) → Result A (ℕ × ℕ) → Type 0
On {A} P outcome = (x : A) → outcome ≡ Ok x → P x

-- where the part has a value, this holds of it
abbrev pub Yields : {A : Type 0} → (A → Type 0) → Reading A → Type 0
Yields {A} P reading = (x : A) → reading.outcome ≡ Ok x → P x

IsOk : {A : Type 0} → Result A (ℕ × ℕ) → Type 0
IsOk (Ok x) = Unit {0}
IsOk (Err refusal) = ⊥

value_or : {A : Type 0} → A → Result A (ℕ × ℕ) → A
value_or other (Ok x) = x
value_or other (Err refusal) = other

same_value : {A : Type 0} (x y : A) → ◌≡◌ {A = Result A (ℕ × ℕ)} (Ok x) (Ok y) → x ≡ y
unfolding value_or
same_value x y e = ap (value_or x) e

not_refused : {A : Type 0} (refusal : ℕ × ℕ) (y : A) → ◌≡◌ {A = Result A (ℕ × ℕ)} (Err refusal) (Ok y) → ⊥
unfolding IsOk
not_refused refusal y e = subst IsOk (sym e) tt

module _ {A : Type 0} (P : A → Type 0) where
  pub gives-yields : (x : A) → P x → Yields P (gives x)
  gives-yields x p y e = subst P (same_value x y e) p

  pub refused-yields : (code at : ℕ) → Yields P (refused code at)
  refused-yields code at y e = absurd (not_refused (code, at) y e)

  pub row-yields : (fits : Bool) (refusal : ℕ × ℕ) (outcome : Result A (ℕ × ℕ)) → (fits ≡ false → On P outcome) → On P (unless fits refusal outcome)
  row-yields true refusal outcome h y e = absurd (not_refused refusal y e)
  row-yields false refusal outcome h y e = h refl y e

  pub found-yields : (code at : ℕ) (o : Option A) → ((x : A) → o ≡ Some x → P x) → Yields P (found code at o)
  found-yields code at None h y e = absurd (not_refused (code, at) y e)
  found-yields code at (Some x) h y e = subst P (same_value x y e) (h x refl)

  pub if-yields : (b : Bool) (one other : Reading A) → (b ≡ true → Yields P one) → (b ≡ false → Yields P other) → Yields P (if b then one else other)
  if-yields true one other h k = h refl
  if-yields false one other h k = k refl

-- two things that hold of a value
pub both-yields : {A : Type 0} (P Q : A → Type 0) (outcome : Result A (ℕ × ℕ)) → On P outcome → On Q outcome → On (λ x. P x × Q x) outcome
both-yields P Q outcome p q x e = (p x e, q x e)

behind-yields : {A B : Type 0} (Q : A → Type 0) (P : B → Type 0) (outcome : Result A (ℕ × ℕ)) (next : A → Reading B)
    → ((x : A) → outcome ≡ Ok x → Q x) → ((x : A) → Q x → Yields P (next x)) → (y : B) → outcome_behind outcome next ≡ Ok y → P y
behind-yields Q P (Ok x) next h k y e = k x (h x refl) y e
behind-yields Q P (Err refusal) next h k y e = absurd (not_refused refusal y e)

pub then-yields : {A B : Type 0} (Q : A → Type 0) (P : B → Type 0) (outcome : Result A (ℕ × ℕ)) (next : A → Reading B)
    → On Q outcome → ((x : A) → Q x → Yields P (next x)) → On P (outcome_behind outcome next)
then-yields Q P outcome next h k y e = behind-yields Q P outcome next h k y e

-- what holds before the parts, and is kept by each, holds behind them; and each gives one value
pub each-yields : {A S : Type 0} (Holds : List A → Type 0) (read : List A → S → Reading A)
    → ((before : List A) (part : S) → Holds before → Yields (λ x. Holds (before ++ x ∷ [])) (read before part))
    → (before : List A) (parts : List S) → Holds before → Yields (λ xs. Holds xs × (length xs ≡ length before + length parts)) (each read before parts)
each-yields {A} {S} Holds read step before [] h =
    gives-yields (λ xs. Holds xs × (length xs ≡ length before + length {A = S} [])) before (h, omega arith)
each-yields {A} {S} Holds read step before (part ∷ parts) h =
    then-yields (λ x. Holds (before ++ x ∷ [])) (λ xs. Holds xs × (length xs ≡ length before + length (part ∷ parts)))
    (read before part).outcome (λ x. each read (before ++ x ∷ []) parts) (step before part h)
    (λ x held xs e.
    let more = each-yields Holds read step (before ++ x ∷ []) parts held xs e in
    (more.0, omega (arith, more.1, length_push before x)))

pub ruleset laws = (then-yields, each-yields)
