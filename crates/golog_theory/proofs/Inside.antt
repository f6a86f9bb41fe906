-- Forms whose parts stand in order, by their parts.
use Rattle.std.proofs.Common.{◌≡◌, ℕ, ◌+◌, ◌-◌, ◌<◌, ◌≤◌, Bool, true, false, IsTrue, ◌&&◌, List, [], ◌∷◌, map, drop, refl, sym, ap, subst, ◌∙◌, arith}
use Rattle.std.specs.Prelude.{nat_lt, nat_le}
use Rattle.golog_form.specs.declared.form.Form.{Form}
use Rattle.golog_form.specs.declared.form.Form.TheOpen.{Form-F, Atom, Group}
use Rattle.golog_form.specs.declared.form.Form.TheVariants as form
use Rattle.golog_form.specs.declared.form.Form.TheViews.{roll-Form}
use Rattle.golog_form.specs.declared.form.Form.TheFolds.{fold-roll-Form, ind-Form, map-Form}
use Rattle.golog_form.specs.Shape.{place_of}
use Rattle.golog_form.specs.Places.{Span, span_of, are_between, IsInOrder}
use Rattle.golog_form.proofs.Ordered.{span_of-Atom, span_of-Group}
use Rattle.golog_theory.specs.Parts.{parts}
use Rattle.golog_theory.specs.Heads.{arguments, head_place, first_place}
use Rattle.golog_theory.proofs.Forms.{parts-Atom, parts-Group}

-- this holds of each of the forms
abbrev pub Each : (Form → Type 0) → List Form → Type 0
Each P [] = Unit {0}
Each P (form ∷ forms) = P form × Each P forms

-- what holds of a form where it holds of its parts holds of every form
module _ (P : Form → Type 0) (step : (f : Form) → Each P (parts f) → P f) where
  abbrev Known : Type 0
  Known = (f : Form) × P f

  abbrev forms : List Known → List Form
  forms rs = map (λ (r : Known). r.0) rs

  each_known : (rs : List Known) → Each P (forms rs)
  each_known [] = tt
  each_known (r ∷ rs) = (r.1, each_known rs)

  layer : (y : Form-F Known) → P (roll-Form (map-Form Known Form (λ r. r.0) y))
  layer (Atom text at end) =
      subst P (sym (form.rolls-Atom text at end)) (step (form.Atom text at end) (subst (Each P) (sym (parts-Atom text at end)) tt))
  layer (Group rs at end) =
      subst P (sym (form.rolls-Group (forms rs) at end)) (step (form.Group (forms rs) at end) (subst (Each P) (sym (parts-Group (forms rs) at end)) (each_known rs)))

  pub by_parts : (f : Form) → P f
  by_parts = ind-Form P (λ x y is. subst (λ z. P (roll-Form z)) is (layer y))

-- what holds of atoms and of lists holds of every form
module _ (P : Form → Type 0) (atom : (text : List ℕ) (at end : ℕ) → P (form.Atom text at end)) (group : (items : List Form) (at end : ℕ) → P (form.Group items at end)) where
  case_layer : (y : Form-F Form) → P (roll-Form y)
  case_layer (Atom text at end) = subst P (sym (form.rolls-Atom text at end)) (atom text at end)
  case_layer (Group items at end) = subst P (sym (form.rolls-Group items at end)) (group items at end)

  by_case : (f : Form) → P f
  by_case = ind-Form P (λ x y is. case_layer x)

-- the place after a form's last byte
abbrev pub end_of : Form → ℕ
end_of f = (span_of f).to

-- these stand in order, one after another, from a place on up to another
abbrev pub Between : ℕ → List Form → ℕ → Type 0
Between from [] to = from ≤ to
Between from (form ∷ forms) to = (from ≤ place_of form) × IsInOrder form × Between (end_of form) forms to

-- a form's own places, and those of its parts
pub record Stands (f : Form) : Type 0 where
  pub size : place_of f < end_of f
  pub inner : Between (place_of f + 1) (parts f) (end_of f)

place-Atom : (text : List ℕ) (at end : ℕ) → place_of (form.Atom text at end) ≡ at
place-Atom text at end = rw (form.outs-Atom text at end) refl

place-Group : (items : List Form) (at end : ℕ) → place_of (form.Group items at end) ≡ at
place-Group items at end = rw (form.outs-Group items at end) refl

abbrev IsPlaced : Form → Type 0
IsPlaced f = place_of f ≡ (span_of f).from

placed : (f : Form) → IsPlaced f
placed = by_case IsPlaced
    (λ text at end. place-Atom text at end ∙ sym (ap (λ (s : Span). s.from) (span_of-Atom text at end)))
    (λ items at end. place-Group items at end ∙ sym (ap (λ (s : Span). s.from) (span_of-Group items at end)))

lt_from : (m n : ℕ) → IsTrue (nat_lt m n) → m < n
lt_from m n t = grind arith

le_from : (m n : ℕ) → IsTrue (nat_le m n) → m ≤ n
le_from m n t = grind arith

and_left : (a b : Bool) → IsTrue (a && b) → IsTrue a
and_left true b t = refl
and_left false b t = t

and_right : (a b : Bool) → IsTrue (a && b) → IsTrue b
and_right true b t = t
and_right false b t = absurd cc

between : (from : ℕ) (fs : List Form) (to : ℕ) → IsTrue (are_between from (map span_of fs) to) → Between from fs to
between from [] to t = le_from from to t
between from (f ∷ fs) to t =
    let here = and_left (nat_le from (span_of f).from && (span_of f).ordered) (are_between (span_of f).to (map span_of fs) to) t in
    let le = le_from from (span_of f).from (and_left (nat_le from (span_of f).from) (span_of f).ordered here) in (
      omega (arith, le, placed f),
      and_right (nat_le from (span_of f).from) (span_of f).ordered here,
      between (span_of f).to fs to (and_right (nat_le from (span_of f).from && (span_of f).ordered) (are_between (span_of f).to (map span_of fs) to) t),
    )

pub between-to : (from : ℕ) (fs : List Form) (to later : ℕ) → to ≤ later → Between from fs to → Between from fs later
between-to from [] to later le b = omega (arith, b)
between-to from (f ∷ fs) to later le b = (b.0, b.1, between-to (end_of f) fs to later le b.2)

abbrev StandsInOrder : Form → Type 0
StandsInOrder f = IsInOrder f → Stands f

atom_stands : (text : List ℕ) (at end : ℕ) → StandsInOrder (form.Atom text at end)
atom_stands text at end order =
    let is = span_of-Atom text at end in
    let lt = lt_from at end (subst (λ (s : Span). IsTrue s.ordered) is order) in
    let to = ap (λ (s : Span). s.to) is in
    record {
      size = omega (arith, place-Atom text at end, lt, to);
      inner = subst (λ fs. Between (place_of (form.Atom text at end) + 1) fs (end_of (form.Atom text at end))) (sym (parts-Atom text at end))
          (omega (arith, place-Atom text at end, lt, to));
    }

group_stands : (items : List Form) (at end : ℕ) → StandsInOrder (form.Group items at end)
group_stands items at end order =
    let is = span_of-Group items at end in
    let t = subst (λ (s : Span). IsTrue s.ordered) is order in
    let lt = lt_from at end (and_left (nat_lt at end) (are_between (at + 1) (map span_of items) (end - 1)) t) in
    let inner = between (at + 1) items (end - 1) (and_right (nat_lt at end) (are_between (at + 1) (map span_of items) (end - 1)) t) in
    let to = ap (λ (s : Span). s.to) is in
    record {
      size = omega (arith, place-Group items at end, lt, to);
      inner = subst (λ fs. Between (place_of (form.Group items at end) + 1) fs (end_of (form.Group items at end))) (sym (parts-Group items at end))
          (subst (λ n. Between (n + 1) items (end_of (form.Group items at end))) (sym (place-Group items at end))
          (between-to (at + 1) items (end - 1) (end_of (form.Group items at end)) (omega (arith, to)) inner));
    }

pub stands : (f : Form) → IsInOrder f → Stands f
stands = by_case StandsInOrder atom_stands group_stands

pub between-from : (from later : ℕ) (fs : List Form) (to : ℕ) → from ≤ later → Between later fs to → Between from fs to
between-from from later [] to le b = omega (arith, b)
between-from from later (f ∷ fs) to le b = (omega (arith, b.0), b.1, b.2)

-- the parts behind the first
pub between-drop : (from : ℕ) (fs : List Form) (to : ℕ) → Between from fs to → Between from (drop 1 fs) to
between-drop from [] to b = b
between-drop from (f ∷ fs) to b = between-from from (end_of f) fs to (omega (arith, b.0, (stands f b.1).size)) b.2

pub arguments-between : (f : Form) → IsInOrder f → Between (place_of f + 1) (arguments f) (end_of f)
arguments-between f order = between-drop (place_of f + 1) (parts f) (end_of f) (stands f order).inner

pub ruleset laws = (by_parts, stands)
