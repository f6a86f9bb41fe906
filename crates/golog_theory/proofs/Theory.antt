-- Items that are read one after another, one item further.
use Rattle.std.proofs.Common.{◌≡◌, ℕ, ◌+◌, ◌<◌, List, length, get_or, drop, Result, ap}
use Rattle.golog_form.specs.declared.form.Form.{Form}
use Rattle.golog_tree.specs.declared.draft.DraftTheory.{DraftTheory}
use Rattle.golog_theory.specs.Reading.{Reading, ◌>>=◌, code_at, Answers, IsFirstRow}
use Rattle.golog_theory.specs.declared.fault.TheoryFault.{TheoryFault}
use Rattle.golog_theory.specs.Items.{item_read, items_read}
use Rattle.golog_rows.proofs.Each.{drop-item}
use Rattle.golog_rows.proofs.Chain as rows

pub items_read-drop : (theory : DraftTheory) (forms : List Form) (i : ℕ) (form : Form) → i < length forms → form ≡ get_or forms i form
    → items_read theory (drop i forms) ≡ (item_read theory form >>= λ next. items_read next (drop (i + 1) forms))
items_read-drop theory forms i form lt is = ap (items_read theory) (drop-item forms i form lt is)

-- an answer is by the first row that fits
pub first_row : {A : Type 0} (result : Result A TheoryFault) (reading : Reading A) → Answers result reading → IsFirstRow result reading.rows
first_row result reading e = rows.first_row code_at result reading e

pub ruleset laws = (items_read-drop, first_row)
