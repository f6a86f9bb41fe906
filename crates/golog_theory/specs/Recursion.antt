-- Readings that go down a form: what a form spells, in view of its parts and of what they spell.
use Rattle.std.specs.Prelude.{List, [], map}
use Rattle.golog_form.specs.declared.form.Form.{Form}
use Rattle.golog_form.specs.declared.form.Form.TheOpen.{Form-F, Atom, Group}
use Rattle.golog_form.specs.declared.form.Form.TheVariants as form
use Rattle.golog_form.specs.declared.form.Form.TheFolds.{fold-Form}

-- a part of a form, and what it spells
pub record Part (A : Type 0) : Type 0 where
  pub form : Form
  pub spelled : A

-- the parts of one layer, none for an atom, and the form that they make
abbrev pub below : {A : Type 0} → Form-F (Part A) → List (Part A)
below (Atom text at end) = []
below (Group items at end) = items

abbrev pub whole : {A : Type 0} → Form-F (Part A) → Form
whole (Atom text at end) = form.Atom text at end
whole {A} (Group items at end) = form.Group (map (λ (part : Part A). part.form) items) at end

-- a form and what it spells, where `read` says so in view of its parts
abbrev pub part_of : {A : Type 0} → (Form → List (Part A) → A) → Form → Part A
part_of {A} read =
    fold-Form (Part A) (λ layer. record { form = whole layer; spelled = read (whole layer) (below layer) })
