-- What a check answers: what the draft spells, or its first refusal.
use Rattle.std.specs.Prelude.{ℕ, Option, Some, None, Result}
use Rattle.golog_rows.specs.Reading.{Reading}
use Rattle.golog_rows.specs.Answers as rows
use Rattle.golog_check.specs.declared.fault.CheckFault.{CheckFault}
use Rattle.golog_check.specs.declared.fault.CheckFault.TheVariants.{Refused, Memory}

-- the code and the place of a refusal
abbrev pub code_at : CheckFault → Option (ℕ × ℕ)
code_at (Refused code at) = Some (code, at)
code_at Memory = None

-- the value of the reading, or its first refusal, unless memory ran out
abbrev pub Answers : {A : Type 0} → Result A CheckFault → Reading A → Type 0
Answers result reading = rows.Answers code_at result reading

-- the same of a call that changes what it is called on
abbrev pub Leaves : {A : Type 0} → Result Unit CheckFault → A → Reading A → Type 0
Leaves result new reading = rows.Leaves code_at result new reading
