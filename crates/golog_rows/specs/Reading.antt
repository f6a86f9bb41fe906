-- What a part of a file spells, or its first refusal.
use Rattle.std.specs.Prelude.{◌≡◌, ℕ, Bool, true, false, List, [], ◌∷◌, ◌++◌, Option, Some, None, Result, Ok, Err, refl}
use Rattle.std.proofs.Common.{sym, subst, ◌∙◌}

-- a row of a table: whether it fits, its code and its place
abbrev pub Row : Type 0
Row = Bool × ℕ × ℕ

-- the code and the place of the first row that fits
abbrev pub first : List Row → Option (ℕ × ℕ)
first [] = None
first ((true, code, at) ∷ rows) = Some (code, at)
first ((false, code, at) ∷ rows) = first rows

abbrev pub refusal_in : {A : Type 0} → Result A (ℕ × ℕ) → Option (ℕ × ℕ)
refusal_in (Ok x) = None
refusal_in (Err refusal) = Some refusal

-- A part is read from left to right. `rows` are those that are tested on the way, whether they fit or not.
-- The first that fits is the refusal, and where none fits the part has a value: that is the outcome.
pub record Reading (A : Type 0) : Type 0 where
  pub rows : List Row
  pub outcome : Result A (ℕ × ℕ)
  pub agrees : first rows ≡ refusal_in outcome

abbrev pub gives : {A : Type 0} → A → Reading A
gives x = record { rows = []; outcome = Ok x; agrees = refl }

-- a refusal, behind which nothing is read
abbrev pub refused : {A : Type 0} → ℕ → ℕ → Reading A
refused code at = record { rows = (true, code, at) ∷ []; outcome = Err (code, at); agrees = refl }

abbrev pub unless : {A : Type 0} → Bool → ℕ × ℕ → Result A (ℕ × ℕ) → Result A (ℕ × ℕ)
unless true refusal outcome = Err refusal
unless false refusal outcome = outcome

pub row-agrees : {A : Type 0} (fits : Bool) (code at : ℕ) (rows : List Row) (outcome : Result A (ℕ × ℕ)) →
    first rows ≡ refusal_in outcome
    → first ((fits, code, at) ∷ rows) ≡ refusal_in (unless fits (code, at) outcome)
row-agrees true code at rows outcome e = refl
row-agrees false code at rows outcome e = e

-- a row, and what is read where it does not fit
abbrev pub row : {A : Type 0} → Bool → ℕ → ℕ → Reading A → Reading A
row fits code at rest = record {
  rows = (fits, code, at) ∷ rest.rows;
  outcome = unless fits (code, at) rest.outcome;
  agrees = row-agrees fits code at rest.rows rest.outcome rest.agrees;
}

abbrev pub rows_behind : {A B : Type 0} → Result A (ℕ × ℕ) → (A → Reading B) → List Row
rows_behind (Ok x) next = (next x).rows
rows_behind (Err refusal) next = []

abbrev pub outcome_behind : {A B : Type 0} → Result A (ℕ × ℕ) → (A → Reading B) → Result B (ℕ × ℕ)
outcome_behind (Ok x) next = (next x).outcome
outcome_behind (Err refusal) next = Err refusal

abbrev IsFound : Option (ℕ × ℕ) → Type 0
IsFound None = ⊥
IsFound (Some refusal) = Unit {0}

first-none : (rows others : List Row) → first rows ≡ None → first (rows ++ others) ≡ first others
first-none [] others e = refl
first-none ((true, code, at) ∷ rows) others e = absurd (subst IsFound e tt)
first-none ((false, code, at) ∷ rows) others e = first-none rows others e

first-some : (rows others : List Row) (refusal : ℕ × ℕ) → first rows ≡ Some refusal
    → first (rows ++ others) ≡ Some refusal
first-some [] others refusal e = absurd (subst IsFound (sym e) tt)
first-some ((true, code, at) ∷ rows) others refusal e = e
first-some ((false, code, at) ∷ rows) others refusal e = first-some rows others refusal e

pub then-agrees : {A B : Type 0} (rows : List Row) (outcome : Result A (ℕ × ℕ)) (next : A → Reading B) →
    first rows ≡ refusal_in outcome
    → first (rows ++ rows_behind outcome next) ≡ refusal_in (outcome_behind outcome next)
then-agrees rows (Ok x) next e = first-none rows (next x).rows e ∙ (next x).agrees
then-agrees rows (Err refusal) next e = first-some rows [] refusal e

-- the first part, and then, where it is not refused, the second, which may use the value of the first
infixl 10 ◌>>=◌
abbrev pub ◌>>=◌ : {A B : Type 0} → Reading A → (A → Reading B) → Reading B
reading >>= next = record {
  rows = reading.rows ++ rows_behind reading.outcome next;
  outcome = outcome_behind reading.outcome next;
  agrees = then-agrees reading.rows reading.outcome next reading.agrees;
}

-- what is found, or a refusal where there is nothing
abbrev pub found : {A : Type 0} → ℕ → ℕ → Option A → Reading A
found code at None = refused code at
found code at (Some x) = gives x

-- the parts one after another, each in view of what those before it gave
abbrev pub each : {A P : Type 0} → (List A → P → Reading A) → List A → List P → Reading (List A)
each read before [] = gives before
each read before (part ∷ parts) = read before part >>= λ x. each read (before ++ x ∷ []) parts
