-- What a reader of a part answers.
pub use Rattle.golog_rows.specs.Reading.{Row, first, refusal_in, Reading, gives, refused, unless, row, rows_behind, outcome_behind, ◌>>=◌, found, each}
use Rattle.std.specs.Prelude.{ℕ, List, Option, Some, None, Result}
use Rattle.golog_rows.specs.Answers as rows
use Rattle.golog_theory.specs.declared.fault.TheoryFault.{TheoryFault}
use Rattle.golog_theory.specs.declared.fault.TheoryFault.TheVariants.{Refused, Memory}

-- the code and the place of a refusal
abbrev pub code_at : TheoryFault → Option (ℕ × ℕ)
code_at (Refused code at) = Some (code, at)
code_at Memory = None

-- A reader answers what the part spells, or its first refusal, unless memory ran out.
abbrev pub Answers : {A : Type 0} → Result A TheoryFault → Reading A → Type 0
Answers result reading = rows.Answers code_at result reading

-- the same of a call that changes what it is called on
abbrev pub Leaves : {A : Type 0} → Result Unit TheoryFault → A → Reading A → Type 0
Leaves result new reading = rows.Leaves code_at result new reading

-- A refusal is that of the first row that fits, and where a value is given no row fits.
abbrev pub IsFirstRow : {A : Type 0} → Result A TheoryFault → List Row → Type 0
IsFirstRow result table = rows.IsFirstRow code_at result table
