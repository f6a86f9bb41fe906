-- The places of a form's parts.
use Rattle.std.specs.Prelude.{ℕ, ◌+◌, ◌-◌, nat_lt, nat_le, ◌&&◌, Bool, IsTrue, List, [], ◌∷◌}
use Rattle.golog_form.specs.declared.form.Form.{Form}
use Rattle.golog_form.specs.declared.form.Form.TheOpen.{Form-F, Atom, Group}
use Rattle.golog_form.specs.declared.form.Form.TheFolds.{fold-Form}

-- where a form stands, and whether its parts, at any depth, stand in order within it
pub record Span : Type 0 where
  pub from : ℕ
  pub to : ℕ
  pub ordered : Bool

-- these stand in order, one after another, from a place on up to another
abbrev pub are_between : ℕ → List Span → ℕ → Bool
are_between from [] to = nat_le from to
are_between from (span ∷ spans) to = nat_le from span.from && span.ordered && are_between span.to spans to

-- An atom has at least one byte. The items of a list stand between its `(` and its `)`.
abbrev pub span_step : Form-F Span → Span
span_step (Atom text at end) = record { from = at; to = end; ordered = nat_lt at end }
span_step (Group items at end) =
    record { from = at; to = end; ordered = nat_lt at end && are_between (at + 1) items (end - 1) }

abbrev pub span_of : Form → Span
span_of = fold-Form Span span_step

-- the parts of the form stand in order, each within the list that holds it
abbrev pub IsInOrder : Form → Type 0
IsInOrder form = IsTrue (span_of form).ordered
