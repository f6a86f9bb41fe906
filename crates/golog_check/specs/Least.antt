-- The first refusals of readings, and what those that are not refused give.
use Rattle.std.specs.Prelude.{Result, Ok, Err, List, [], ◌∷◌, ◌++◌}
use Rattle.golog_rows.specs.Reading.{Reading}
use Rattle.golog_rows.specs.Least.{CodeAt}

abbrev pub refusal_of : {A : Type 0} → Result A CodeAt → List CodeAt
refusal_of (Ok x) = []
refusal_of (Err refusal) = refusal ∷ []

-- the first refusal of each of these, where it has one
abbrev pub refusals : {A : Type 0} → List (Reading A) → List CodeAt
refusals [] = []
refusals (reading ∷ readings) = refusal_of reading.outcome ++ refusals readings

abbrev pub value_of : {A : Type 0} → Result A CodeAt → List A
value_of (Ok x) = x ∷ []
value_of (Err refusal) = []

-- what those of these that are not refused give
abbrev pub given : {A : Type 0} → List (Reading A) → List A
given [] = []
given (reading ∷ readings) = value_of reading.outcome ++ given readings
