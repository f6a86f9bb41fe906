-- What a reader of scripts answers.
pub use Rattle.golog_rows.specs.Reading.{Row, first, refusal_in, Reading, gives, refused, unless, row, rows_behind, outcome_behind, ◌>>=◌, found, each}
use Rattle.std.specs.Prelude.{ℕ, List, Option, Some, None, Result}
use Rattle.golog_rows.specs.Answers as rows
use Rattle.golog_script.specs.declared.fault.ScriptFault.{ScriptFault}
use Rattle.golog_script.specs.declared.fault.ScriptFault.TheVariants.{Refused, Memory}

-- the code and the position of a refusal
abbrev pub code_at : ScriptFault → Option (ℕ × ℕ)
code_at (Refused code at) = Some (code, at)
code_at Memory = None

-- A reader answers what the part spells, or its first refusal, unless memory ran out.
abbrev pub Answers : {A : Type 0} → Result A ScriptFault → Reading A → Type 0
Answers result reading = rows.Answers code_at result reading

-- A refusal is that of the first row that fits, and where a value is given no row fits.
abbrev pub IsFirstRow : {A : Type 0} → Result A ScriptFault → List Row → Type 0
IsFirstRow result table = rows.IsFirstRow code_at result table
