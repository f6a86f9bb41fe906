-- What the reader of a journal answers.
use Rattle.std.specs.Prelude.{◌≡◌, ℕ, List, Option, Some, None, Result, Ok, Err}
use denote.Ref.{Bor}
use Rattle.golog_rows.specs.Reading.{Reading, Row}
use Rattle.golog_rows.specs.Answers as rows
use Rattle.golog_semantics.specs.Text.{Text}
use Rattle.golog_semantics.specs.Truth.{Values}
use Rattle.golog_reports.specs.declared.fault.TextFault.{TextFault}
use Rattle.golog_reports.specs.declared.fault.TextFault.TheVariants.{Refused, Memory}

-- the code and the line of a refusal
abbrev pub code_at : TextFault → Option (ℕ × ℕ)
code_at (Refused line why) = Some (why, line)
code_at Memory = None

-- A reader answers what the part says, or its first refusal, unless memory ran out.
abbrev pub Answers : {A : Type 0} → Result A TextFault → Reading A → Type 0
Answers result reading = rows.Answers code_at result reading

-- the same of a call that gives what is to be read still, beside the values that were read
abbrev pub ReadsOn : Result (Bor (List ℕ)) TextFault → Values → Reading (Values × Text) → Type 0
ReadsOn (Ok rest) values reading = reading.outcome ≡ Ok (values, rest.now)
ReadsOn (Err fault) values reading = rows.IfRefused (code_at fault) (λ code at. reading.outcome ≡ Err (code, at))

-- A refusal is that of the first row that fits, and where a value is given no row fits.
abbrev pub IsFirstRow : {A : Type 0} → Result A TextFault → List Row → Type 0
IsFirstRow result table = rows.IsFirstRow code_at result table
