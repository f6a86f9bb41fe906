-- In which order the rows of a table stand, and which of the rows that fit is the least.
use Rattle.std.specs.Prelude.{◌<◌, ◌≤◌, ℕ, List, All, Result}
use Rattle.golog_rows.specs.Order.{IsOrdered}
use Rattle.golog_rows.specs.Answers as rows
use Rattle.golog_form.specs.declared.form.Form.{Form}
use Rattle.golog_form.specs.Shape.{place_of}
use Rattle.golog_form.specs.Places.{span_of}
use Rattle.golog_tree.specs.declared.draft.DraftTheory.{DraftTheory}
use Rattle.golog_theory.specs.declared.fault.TheoryFault.{TheoryFault}
use Rattle.golog_theory.specs.Reading.{Row, code_at}
use Rattle.golog_theory.specs.Conditions.{cond_of}
use Rattle.golog_theory.specs.Items.{item_read, theory_of}

-- The rows of a part of a form stand in order, each at a place of the form.
pub record StandIn (form : Form) (rows : List Row) : Type 0 where
  pub ordered : IsOrdered rows
  pub within : All (λ (row : Row). (place_of form ≤ row.2) × (row.2 < (span_of form).to)) rows

-- A refusal is the least of the rows that fit, and where a value is given none fits.
abbrev pub IsLeastRow : {A : Type 0} → Result A TheoryFault → List Row → Type 0
IsLeastRow result table = rows.IsLeastRow code_at result table

-- Where the parts of a form stand in order, so do the rows of its tables: those of an item over any theory,
-- those of a condition within any variables, and those of a whole theory.
pub record TablesAreOrdered (form : Form) : Type 0 where
  pub items : (theory : DraftTheory) → StandIn form (item_read theory form).rows
  pub conditions : (theory : DraftTheory) (scope : ℕ) → StandIn form (cond_of theory form scope).rows
  pub theories : StandIn form (theory_of form).rows
