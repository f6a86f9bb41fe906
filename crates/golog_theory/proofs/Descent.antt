-- Readings go down a form, whose parts nest less deep than it.
use Rattle.std.proofs.Common.{◌≡◌, ℕ, ◌+◌, ◌≤◌, ◌<◌, List, [], ◌∷◌, length, get_or, map, sym, ap, subst, ◌∙◌, arith, zero, suc}
use Rattle.golog_form.specs.declared.form.Form.{Form}
use Rattle.golog_form.specs.declared.form.Form.TheOpen.{Form-F, Atom, Group}
use Rattle.golog_form.specs.declared.form.Form.TheVariants as form
use Rattle.golog_form.specs.declared.form.Form.TheViews.{roll-Form}
use Rattle.golog_form.specs.declared.form.Form.TheFolds.{fold-roll-Form, ind-Form, map-Form}
use Rattle.golog_form.specs.Spelling.{nest, nest_step, greatest}
use Rattle.golog_tree.specs.declared.draft.DraftTheory.{DraftTheory}
use Rattle.golog_theory.specs.Parts.{parts}
use Rattle.golog_theory.specs.Terms.{atom_term, term_by, term_of, term_part}
use Rattle.golog_theory.proofs.Forms.{by_parts, parts-Atom, parts-Group}

abbrev pub deepest : List Form → ℕ
deepest forms = greatest (map nest forms)

nest-Group : (items : List Form) (at end : ℕ) → nest (form.Group items at end) ≡ deepest items + 1
nest-Group items at end = ap nest (sym (form.rolls-Group items at end)) ∙ fold-roll-Form ℕ nest_step (Group items at end)

abbrev IsDeeper : Form → Type 0
IsDeeper f = (first : Form) (rest : List Form) → parts f ≡ first ∷ rest → deepest rest + 1 ≤ nest f

atom_deeper : (text : List ℕ) (at end : ℕ) → IsDeeper (form.Atom text at end)
atom_deeper text at end first rest e = let none : [] ≡ first ∷ rest = sym (parts-Atom text at end) ∙ e in absurd cc

group_deeper : (items : List Form) (at end : ℕ) → IsDeeper (form.Group items at end)
group_deeper items at end first rest e =
    let same : deepest items ≡ deepest (first ∷ rest) = ap deepest (sym (parts-Group items at end) ∙ e) in
    omega (arith, nest-Group items at end, same)

abbrev Known : Type 0
Known = (f : Form) × IsDeeper f

layer : (y : Form-F Known) → IsDeeper (roll-Form (map-Form Known Form (λ r. r.0) y))
layer (Atom text at end) = subst IsDeeper (sym (form.rolls-Atom text at end)) (atom_deeper text at end)
layer (Group rs at end) = subst IsDeeper (sym (form.rolls-Group (map (λ (r : Known). r.0) rs) at end)) (group_deeper (map (λ (r : Known). r.0) rs) at end)

is_deeper : (f : Form) → IsDeeper f
is_deeper = ind-Form IsDeeper (λ x y is. subst (λ z. IsDeeper (roll-Form z)) is (layer y))

-- the parts behind the first nest less deep than the form
pub rest_deeper : (f first : Form) (rest : List Form) → parts f ≡ first ∷ rest → deepest rest + 1 ≤ nest f
rest_deeper f first rest e = is_deeper f first rest e

-- a part nests no deeper than the deepest
pub deepest_one : (forms : List Form) (one : Form) (rest : List Form) → forms ≡ one ∷ rest → nest one ≤ deepest forms
deepest_one forms one rest e = let same = ap deepest e in omega (arith, same)

pub deepest_two : (forms : List Form) (one other : Form) (rest : List Form) → forms ≡ one ∷ other ∷ rest → nest other ≤ deepest forms
deepest_two forms one other rest e = let same = ap deepest e in omega (arith, same)

pub deepest_at : (forms : List Form) (i : ℕ) (f : Form) → i < length forms → f ≡ get_or forms i f → nest f ≤ deepest forms
deepest_at [] i f lt is = absurd (omega arith)
deepest_at (g ∷ forms) zero f lt is = let h = ap nest is in omega (arith, h)
deepest_at (g ∷ forms) (suc i) f lt is = omega (arith, deepest_at forms i f (omega arith) is)

-- the term that a form spells, by its parts
pub term_of-parts : (theory : DraftTheory) (f : Form) → term_of theory f ≡ term_by theory f (map (term_part theory) (parts f))
unfolding term_of
term_of-parts theory f = by_parts (term_by theory) f

pub term_of-none : (theory : DraftTheory) (f : Form) → parts f ≡ [] → term_of theory f ≡ atom_term f
term_of-none theory f none = term_of-parts theory f ∙ ap (λ fs. term_by theory f (map (term_part theory) fs)) none

pub ruleset laws = (rest_deeper, deepest_one, deepest_two, deepest_at, term_of-parts, term_of-none)
