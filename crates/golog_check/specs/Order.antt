-- The least of all rows that fit.
use Rattle.std.specs.Prelude.{true, Result, List, [], ◌∷◌, ◌++◌, map}
use Rattle.golog_tree.specs.declared.draft.DraftTheory.{DraftTheory}
use Rattle.golog_tree.specs.declared.draft.DraftProgram.{DraftProgram}
use Rattle.golog_rows.specs.Reading.{Row, Reading}
use Rattle.golog_rows.specs.Answers as rows
use Rattle.golog_check.specs.declared.fault.CheckFault.{CheckFault}
use Rattle.golog_check.specs.DeclaredItems.{Declared}
use Rattle.golog_check.specs.Faults.{code_at}
use Rattle.golog_rows.specs.Least.{CodeAt}
use Rattle.golog_check.specs.Check.{names_of, of_parts}

abbrev pub rows_of : {A : Type 0} → List (Reading A) → List Row
rows_of [] = []
rows_of (reading ∷ readings) = reading.rows ++ rows_of readings

-- refusals as rows that fit
abbrev pub refused_rows : List CodeAt → List Row
refused_rows refusals = map (λ (r : CodeAt). (true, r.0, r.1)) refusals

-- The rows of all items, whether they fit or not, and those of what procedures call without a step and of search
-- blocks, of which only those that fit are listed.
abbrev pub rows_in : Declared → DraftTheory → DraftProgram → List Row
rows_in names theory program = of_parts (λ A readings. rows_of readings) refused_rows names theory program

-- Where there is a value, no row fits. A refusal is the least of the rows that fit.
abbrev pub IsLeastRow : {A : Type 0} → Result A CheckFault → List Row → Type 0
IsLeastRow result table = rows.IsLeastRow code_at result table

abbrev pub all_rows : DraftTheory → DraftProgram → List Row
all_rows theory program = rows_in (names_of theory program) theory program
