-- Items that are read one after another, one item further.
use Rattle.std.proofs.Common.{◌≡◌, ℕ, ◌+◌, ◌<◌, List, length, get_or, drop, ap}
use Rattle.golog_form.specs.declared.form.Form.{Form}
use Rattle.golog_tree.specs.declared.draft.DraftTheory.{DraftTheory}
use Rattle.golog_theory.specs.Reading.{◌>>=◌}
use Rattle.golog_rows.proofs.Each.{drop-item}
use Rattle.golog_theory.proofs.Theory.{first_row}
use Rattle.golog_prog.specs.declared.items.SoFar.{SoFar}
use Rattle.golog_prog.specs.declared.procedures.Declared.{Declared}
use Rattle.golog_prog.specs.Items.{item_read, items_read}

pub items_read-drop : (theory : DraftTheory) (procs : List Declared) (so_far : SoFar) (forms : List Form) (i : ℕ) (form : Form) → i < length forms → form ≡ get_or forms i form
    → items_read theory procs so_far (drop i forms) ≡ (item_read theory procs so_far form >>= λ next. items_read theory procs next (drop (i + 1) forms))
items_read-drop theory procs so_far forms i form lt is = ap (items_read theory procs so_far) (drop-item forms i form lt is)

pub ruleset laws = (items_read-drop, first_row)
