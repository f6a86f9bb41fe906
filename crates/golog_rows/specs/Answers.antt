-- What a reader answers: a value, or a fault. A fault is a refusal, which has a code and a place, or want of
-- memory, which has none. Each reader has faults of its own; `code_at` tells the code and the place of one.
use Rattle.std.specs.Prelude.{◌≡◌, ℕ, List, Option, Some, None, Result, Ok, Err}
use Rattle.golog_rows.specs.Reading.{Row, first, Reading}
use Rattle.golog_rows.specs.Order.{Fits, IsLeast}

-- what holds of a code and its place, where there are any
abbrev pub IfRefused : Option (ℕ × ℕ) → (ℕ → ℕ → Type 0) → Type 0
IfRefused None Holds = Unit {0}
IfRefused (Some refusal) Holds = Holds refusal.0 refusal.1

module _ {F : Type 0} (code_at : F → Option (ℕ × ℕ)) where
  -- A reader answers what the part spells, or its first refusal, unless memory ran out.
  abbrev pub Answers : {A : Type 0} → Result A F → Reading A → Type 0
  Answers (Ok x) reading = reading.outcome ≡ Ok x
  Answers (Err fault) reading = IfRefused (code_at fault) (λ code at. reading.outcome ≡ Err (code, at))

  -- the same of a call that changes what it is called on
  abbrev pub Leaves : {A : Type 0} → Result Unit F → A → Reading A → Type 0
  Leaves (Ok done) new reading = reading.outcome ≡ Ok new
  Leaves (Err fault) new reading = IfRefused (code_at fault) (λ code at. reading.outcome ≡ Err (code, at))

  -- A refusal is that of the first row that fits, and where a value is given no row fits.
  abbrev pub IsFirstRow : {A : Type 0} → Result A F → List Row → Type 0
  IsFirstRow (Ok x) rows = first rows ≡ None
  IsFirstRow (Err fault) rows = IfRefused (code_at fault) (λ code at. first rows ≡ Some (code, at))

  -- A refusal is the least of all that fits, and where a value is given nothing fits.
  abbrev pub IsLeastOfAll : {A : Type 0} → Result A F → (ℕ → ℕ → Type 0) → Type 0
  IsLeastOfAll (Ok x) Holds = (code at : ℕ) → Holds code at → ⊥
  IsLeastOfAll (Err fault) Holds = IfRefused (code_at fault) (IsLeast Holds)

  -- the same of the rows of a table
  abbrev pub IsLeastRow : {A : Type 0} → Result A F → List Row → Type 0
  IsLeastRow result rows = IsLeastOfAll result (Fits rows)
