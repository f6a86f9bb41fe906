-- What a form spells, by its parts.
use Rattle.std.proofs.Common.{◌≡◌, ℕ, List, [], ◌∷◌, map, refl, sym, ap, subst, ◌∙◌}
use Rattle.golog_form.specs.declared.form.Form.{Form}
use Rattle.golog_form.specs.declared.form.Form.TheOpen.{Form-F, Atom, Group}
use Rattle.golog_form.specs.declared.form.Form.TheVariants as form
use Rattle.golog_form.specs.declared.form.Form.TheViews.{roll-Form}
use Rattle.golog_form.specs.declared.form.Form.TheFolds.{fold-roll-Form, ind-Form, map-Form}
use Rattle.golog_theory.specs.Parts.{parts}
use Rattle.golog_theory.specs.Recursion.{Part, below, whole, part_of}

-- the parts of an atom and of a list
pub parts-Atom : (text : List ℕ) (at end : ℕ) → parts (form.Atom text at end) ≡ []
parts-Atom text at end = rw (form.outs-Atom text at end) refl

pub parts-Group : (items : List Form) (at end : ℕ) → parts (form.Group items at end) ≡ items
parts-Group items at end = rw (form.outs-Group items at end) refl

module _ {A : Type 0} (read : Form → List (Part A) → A) where
  abbrev step : Form-F (Part A) → Part A
  step layer = record { form = whole layer; spelled = read (whole layer) (below layer) }

  abbrev itself : Form → Part A
  itself f = record { form = f; spelled = (part_of read f).spelled }

  part_of-Atom : (text : List ℕ) (at end : ℕ) → part_of read (form.Atom text at end) ≡ step (Atom text at end)
  part_of-Atom text at end = ap (part_of read) (sym (form.rolls-Atom text at end)) ∙ fold-roll-Form (Part A) step (Atom text at end)

  part_of-Group : (items : List Form) (at end : ℕ) → part_of read (form.Group items at end) ≡ step (Group (map (part_of read) items) at end)
  part_of-Group items at end = ap (part_of read) (sym (form.rolls-Group items at end)) ∙ fold-roll-Form (Part A) step (Group items at end)

  -- a part has its own form
  abbrev IsItself : Form → Type 0
  IsItself f = part_of read f ≡ itself f

  abbrev Shown : Type 0
  Shown = (f : Form) × IsItself f

  abbrev forms : List Shown → List Form
  forms rs = map (λ (r : Shown). r.0) rs

  each_itself : (rs : List Shown) → map (part_of read) (forms rs) ≡ map itself (forms rs)
  each_itself [] = refl
  each_itself (r ∷ rs) = ap (λ p. p ∷ map (part_of read) (forms rs)) r.1 ∙ ap (λ ps. itself r.0 ∷ ps) (each_itself rs)

  forms_of : (fs : List Form) → map (λ (p : Part A). p.form) (map itself fs) ≡ fs
  forms_of [] = refl
  forms_of (f ∷ fs) = ap (λ gs. f ∷ gs) (forms_of fs)

  whole_of : (rs : List Shown) (at end : ℕ) → whole (Group (map (part_of read) (forms rs)) at end) ≡ form.Group (forms rs) at end
  whole_of rs at end = ap (λ ps. form.Group (map (λ (p : Part A). p.form) ps) at end) (each_itself rs) ∙ ap (λ fs. form.Group fs at end) (forms_of (forms rs))

  same_form : (p : Part A) (f : Form) (q : Part A) → p ≡ q → q.form ≡ f → p ≡ record { form = f; spelled = p.spelled }
  same_form p f q e is = let here : p.form ≡ f = ap (λ (x : Part A). x.form) e ∙ is in ap (λ g. record { form = g; spelled = p.spelled }) here

  layer : (y : Form-F Shown) → IsItself (roll-Form (map-Form Shown Form (λ r. r.0) y))
  layer (Atom text at end) = subst IsItself (sym (form.rolls-Atom text at end)) (same_form (part_of read (form.Atom text at end)) (form.Atom text at end) (step (Atom text at end)) (part_of-Atom text at end) refl)
  layer (Group rs at end) = subst IsItself (sym (form.rolls-Group (forms rs) at end)) (same_form (part_of read (form.Group (forms rs) at end)) (form.Group (forms rs) at end) (step (Group (map (part_of read) (forms rs)) at end)) (part_of-Group (forms rs) at end) (whole_of rs at end))

  is_itself : (f : Form) → IsItself f
  is_itself = ind-Form IsItself (λ x y is. subst (λ z. IsItself (roll-Form z)) is (layer y))

  all_themselves : (fs : List Form) → map (part_of read) fs ≡ map itself fs
  all_themselves [] = refl
  all_themselves (f ∷ fs) = ap (λ p. p ∷ map (part_of read) fs) (is_itself f) ∙ ap (λ ps. itself f ∷ ps) (all_themselves fs)

  -- what a form spells, in view of its parts
  abbrev ByParts : Form → Type 0
  ByParts f = (part_of read f).spelled ≡ read f (map itself (parts f))

  abbrev Known : Type 0
  Known = (f : Form) × ByParts f

  atom_by : (text : List ℕ) (at end : ℕ) → ByParts (form.Atom text at end)
  atom_by text at end =
      ap (λ (p : Part A). p.spelled) (part_of-Atom text at end)
      ∙ ap (λ fs. read (form.Atom text at end) (map itself fs)) (sym (parts-Atom text at end))

  group_by : (fs : List Form) (at end : ℕ) → ByParts (form.Group fs at end)
  group_by fs at end =
      ap (λ (p : Part A). p.spelled) (part_of-Group fs at end)
      ∙ ap (λ ps. read (form.Group (map (λ (p : Part A). p.form) ps) at end) ps) (all_themselves fs)
      ∙ ap (λ gs. read (form.Group gs at end) (map itself fs)) (forms_of fs)
      ∙ ap (λ gs. read (form.Group fs at end) (map itself gs)) (sym (parts-Group fs at end))

  by_layer : (y : Form-F Known) → ByParts (roll-Form (map-Form Known Form (λ r. r.0) y))
  by_layer (Atom text at end) = subst ByParts (sym (form.rolls-Atom text at end)) (atom_by text at end)
  by_layer (Group rs at end) = subst ByParts (sym (form.rolls-Group (map (λ (r : Known). r.0) rs) at end)) (group_by (map (λ (r : Known). r.0) rs) at end)

  pub by_parts : (f : Form) → (part_of read f).spelled ≡ read f (map itself (parts f))
  by_parts = ind-Form ByParts (λ x y is. subst (λ z. ByParts (roll-Form z)) is (by_layer y))
