-- The text of a form.
use Rattle.std.specs.Prelude.{◌≡◌, ℕ, Bool, ◌&&◌, List, [], ◌∷◌, ◌++◌, map}
use Rattle.std.specs.List.{flat_map, list_all}
use Rattle.golog_form.specs.declared.form.Form.{Form}
use Rattle.golog_form.specs.declared.form.Form.TheOpen.{Form-F, Atom, Group}
use Rattle.golog_form.specs.declared.form.Form.TheVariants as form
use Rattle.golog_form.specs.declared.form.Form.TheFolds.{fold-Form}
use Rattle.golog_form.specs.Tokens.{class, is_atom, starts_atom, tokens}
use Rattle.golog_form.specs.Spelling.{spelling}

-- one space between texts
abbrev pub spaced : List (List ℕ) → List ℕ
spaced [] = []
spaced (text ∷ texts) = text ++ flat_map (λ t. 32 ∷ t) texts

-- an atom is its text, and a list stands in `(` and `)`
abbrev pub text_step : Form-F (List ℕ) → List ℕ
text_step (Atom text at end) = text
text_step (Group items at end) = 40 ∷ spaced items ++ 41 ∷ []

-- the text of a form
abbrev pub text_of : Form → List ℕ
text_of = fold-Form (List ℕ) text_step

abbrev pub spaced_texts : List Form → List ℕ
spaced_texts forms = spaced (map text_of forms)

-- an atom has only bytes of atoms, at least one
abbrev pub atom_fits : List ℕ → Bool
atom_fits text = starts_atom text && list_all (λ b. is_atom (class b)) text

abbrev pub fit_step : Form-F Bool → Bool
fit_step (Atom text at end) = atom_fits text
fit_step (Group items at end) = list_all (λ fits. fits) items

-- all atoms of a form are such
abbrev pub atoms_fit : Form → Bool
atoms_fit = fold-Form Bool fit_step

abbrev pub plain_step : Form-F Form → Form
plain_step (Atom text at end) = form.Atom text 0 0
plain_step (Group items at end) = form.Group items 0 0

-- a form without its places
abbrev pub plain : Form → Form
plain = fold-Form Form plain_step

-- the text spells the form again, but for its places and with no limit
abbrev pub ReadsBack : List ℕ → Form → Type 0
ReadsBack text f = (again : Form) × (tokens text ≡ spelling again) × (plain again ≡ plain f)
