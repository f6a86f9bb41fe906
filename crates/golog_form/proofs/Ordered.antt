-- The parts of a form that is read stand in order.
use Rattle.std.proofs.Common.{◌≡◌, ℕ, ◌+◌, ◌-◌, ◌<◌, ◌≤◌, true, false, ◌&&◌, List, [], ◌∷◌, ◌++◌, length, map, Result, Ok, Err, sym, ap, subst, ◌∙◌, append_assoc, arith}
use Rattle.std.specs.Prelude.{IfOk, nat_lt, nat_le}
use Rattle.std.specs.List.{flat_map}
use Rattle.std.proofs.lemmas.List.{append-nil}
use Rattle.std.proofs.lemmas.List.Concat.{flat_map-cons}
use Rattle.golog_form.specs.declared.form.Form.{Form}
use Rattle.golog_form.specs.declared.form.Form.TheOpen.{Form-F, Atom, Group}
use Rattle.golog_form.specs.declared.form.Form.TheVariants as form
use Rattle.golog_form.specs.declared.form.Form.TheViews.{roll-Form}
use Rattle.golog_form.specs.declared.form.Form.TheFolds.{fold-roll-Form, ind-Form, map-Form}
use Rattle.golog_form.specs.declared.fault.FormFault.{FormFault}
use Rattle.golog_form.specs.declared.token.Token.{Token}
use Rattle.golog_form.specs.declared.token.Token.TheVariants as token
use Rattle.golog_form.specs.Gives.{Gives}
use Rattle.golog_form.specs.Parsing.{parse, start}
use Rattle.golog_form.specs.Places.{Span, are_between, span_step, span_of, IsInOrder}
use Rattle.golog_form.specs.Spelling.{spelling, Spells}
use Rattle.golog_form.specs.Tokens.{tokens}
use Rattle.golog_form.proofs.Found.{spelling-Atom, spelling-Group, found}
use Rattle.golog_form.proofs.Least.{Ordered, tokens-ordered}
use Rattle.golog_form.proofs.Printable.{both}

pub span_of-Atom : (text : List ℕ) (at end : ℕ) → span_of (form.Atom text at end) ≡ span_step (Atom text at end)
span_of-Atom text at end = ap span_of (sym (form.rolls-Atom text at end)) ∙ fold-roll-Form Span span_step (Atom text at end)

pub span_of-Group : (items : List Form) (at end : ℕ)
    → span_of (form.Group items at end) ≡ record { from = at; to = end; ordered = nat_lt at end && are_between (at + 1) (map span_of items) (end - 1) }
span_of-Group items at end = ap span_of (sym (form.rolls-Group items at end)) ∙ fold-roll-Form Span span_step (Group items at end)

lt-true : (m n : ℕ) → m < n → nat_lt m n ≡ true
lt-true m n lt = grind arith

le-true : (m n : ℕ) → m ≤ n → nat_le m n ≡ true
le-true m n le = grind arith

-- what is shown of a form: behind it the other tokens stand in order
abbrev Stands : Span → ℕ → List Token → ℕ → Type 0
Stands span from ts end = (from ≤ span.from) × (span.from < span.to) × (span.ordered ≡ true) × Ordered span.to ts end

abbrev IsPlaced : Form → Type 0
IsPlaced f = (from : ℕ) (ts : List Token) (end : ℕ) → Ordered from (spelling f ++ ts) end → Stands (span_of f) from ts end

abbrev Placed : Type 0
Placed = (f : Form) × IsPlaced f

abbrev forms : List Placed → List Form
forms rs = map (λ r. r.0) rs

-- the items of a list, up to its `)`
items_placed : (rs : List Placed) (from last : ℕ) (ts : List Token) (end : ℕ)
    → Ordered from (flat_map spelling (forms rs) ++ (token.Close last ∷ ts)) end
    → (are_between from (map span_of (forms rs)) (last - 1) ≡ true) × (from < last) × Ordered last ts end
items_placed [] from last ts end o = (le-true from (last - 1) o.0, omega (arith, o.0, o.1), o.2)
items_placed (r ∷ rs) from last ts end o =
    let regrouped : flat_map spelling (r.0 ∷ forms rs) ++ (token.Close last ∷ ts) ≡ spelling r.0 ++ (flat_map spelling (forms rs) ++ (token.Close last ∷ ts)) =
    ap (λ x. x ++ (token.Close last ∷ ts)) (flat_map-cons spelling r.0 (forms rs)) ∙ append_assoc (spelling r.0) (flat_map spelling (forms rs)) (token.Close last ∷ ts) in
    let one = r.1 from (flat_map spelling (forms rs) ++ (token.Close last ∷ ts)) end (subst (λ x. Ordered from x end) regrouped o) in
    let others = items_placed rs (span_of r.0).to last ts end one.3 in (
      both (nat_le from (span_of r.0).from && (span_of r.0).ordered) (are_between (span_of r.0).to (map span_of (forms rs)) (last - 1))
          (both (nat_le from (span_of r.0).from) (span_of r.0).ordered (le-true from (span_of r.0).from one.0) one.2) others.0,
      omega (arith, one.0, one.1, others.1),
      others.2,
    )

atom_placed : (text : List ℕ) (at last : ℕ) → IsPlaced (form.Atom text at last)
atom_placed text at last from ts end o =
    let here : Ordered from (token.Atom text at last ∷ ts) end = subst (λ x. Ordered from (x ++ ts) end) (spelling-Atom text at last) o in
    subst (λ span. Stands span from ts end) (sym (span_of-Atom text at last)) (here.0, here.1, lt-true at last here.1, here.2)

group_placed : (rs : List Placed) (at last : ℕ) → IsPlaced (form.Group (forms rs) at last)
group_placed rs at last from ts end o =
    let regrouped : spelling (form.Group (forms rs) at last) ++ ts ≡ token.Open at ∷ (flat_map spelling (forms rs) ++ (token.Close last ∷ ts)) =
    ap (λ x. x ++ ts) (spelling-Group (forms rs) at last) ∙ ap (λ x. token.Open at ∷ x) (append_assoc (flat_map spelling (forms rs)) (token.Close last ∷ []) ts) in
    let here : Ordered from (token.Open at ∷ (flat_map spelling (forms rs) ++ (token.Close last ∷ ts))) end = subst (λ x. Ordered from x end) regrouped o in
    let inner = items_placed rs (at + 1) last ts end here.2 in
    subst (λ span. Stands span from ts end) (sym (span_of-Group (forms rs) at last))
    (here.0, omega (arith, inner.1), both (nat_lt at last) (are_between (at + 1) (map span_of (forms rs)) (last - 1)) (lt-true at last (omega (arith, inner.1))) inner.0, inner.2)

layer : (y : Form-F Placed) → IsPlaced (roll-Form (map-Form Placed Form (λ r. r.0) y))
layer (Atom text at last) = subst IsPlaced (sym (form.rolls-Atom text at last)) (atom_placed text at last)
layer (Group rs at last) = subst IsPlaced (sym (form.rolls-Group (forms rs) at last)) (group_placed rs at last)

form_placed : (f : Form) → IsPlaced f
form_placed = ind-Form IsPlaced (λ x y is. subst (λ z. IsPlaced (roll-Form z)) is (layer y))

-- what bytes spell stands in order in them
pub spelled-ordered : (text : List ℕ) (f : Form) → Spells text f → IsInOrder f
spelled-ordered text f spells =
    let whole : tokens text ≡ spelling f ++ [] = spells.same ∙ sym (append-nil (spelling f)) in
    let o = tokens-ordered false 0 text (length text) (omega arith) in
    (form_placed f 0 [] (length text) (subst (λ ts. Ordered 0 ts (length text)) whole o)).2

pub ordered : (text : List ℕ) (end : ℕ) (r : Result Form FormFault) → Gives r (parse end (tokens text) start) → IfOk r IsInOrder
ordered text end (Ok f) gives = spelled-ordered text f (found text end (Ok f) gives)
ordered text end (Err fault) gives = tt
