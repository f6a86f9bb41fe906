-- Tokens that spell a form are read as that form.
use Rattle.std.proofs.Common.{◌≡◌, ℕ, ◌+◌, ◌≤◌, leb, length, List, [], ◌∷◌, ◌++◌, map, Option, Some, None, Result, Ok, refl, sym, ap, subst, ◌∙◌, append_assoc, arith, inl, inr}
use Rattle.std.specs.List.{flat_map}
use Rattle.std.proofs.lemmas.List.{append-nil}
use Rattle.std.proofs.lemmas.List.Concat.{flat_map-cons}
use Rattle.std.proofs.lemmas.Bool.{cases_Bool, leb-true}
use Rattle.golog_form.specs.declared.form.Form.{Form}
use Rattle.golog_form.specs.declared.form.Form.TheOpen.{Form-F, Atom, Group}
use Rattle.golog_form.specs.declared.form.Form.TheVariants as form
use Rattle.golog_form.specs.declared.form.Form.TheViews.{roll-Form}
use Rattle.golog_form.specs.declared.form.Form.TheFolds.{ind-Form, map-Form}
use Rattle.golog_form.specs.declared.fault.FormFault.{FormFault}
use Rattle.golog_form.specs.declared.parser.Level.{Level}
use Rattle.golog_form.specs.declared.parser.Parser.{Parser}
use Rattle.golog_form.specs.declared.token.Token.{Token}
use Rattle.golog_form.specs.declared.token.Token.TheVariants as token
use Rattle.golog_form.specs.Spelling.{spelling, nest, greatest, Spells}
use Rattle.golog_form.specs.Gives.{Gives}
use Rattle.golog_form.specs.Parsing.{◌>>=◌, parser, start, put_form, deeper, open_level, parse}
use Rattle.golog_form.specs.Tokens.{tokens}
use Rattle.golog_form.proofs.Found.{spelling-Atom, spelling-Group, nest-Group}

-- there is room for one more form
abbrev IsFree : List Level → Option Form → Type 0
IsFree [] (Some f) = ⊥
IsFree [] None = Unit {0}
IsFree (level ∷ levels) found = Unit {0}

abbrev with_form : Form → List Level → Option Form → Parser
with_form f [] found = parser [] (Some f)
with_form f (level ∷ levels) found = parser (record { at = level.at; items = level.items ++ f ∷ [] } ∷ levels) found

put_form-free : (f : Form) (at : ℕ) (levels : List Level) (found : Option Form) → IsFree levels found → put_form f at levels found ≡ Ok (with_form f levels found)
put_form-free f at [] None free = refl
put_form-free f at [] (Some g) free = absurd free
put_form-free f at (level ∷ levels) found free = refl

deeper-fits : (at : ℕ) (levels : List Level) (found : Option Form) → length levels + 1 ≤ 128 → deeper at levels found ≡ Ok (parser (record { at = at; items = [] } ∷ levels) found)
deeper-fits at levels found fits =
    elim (cases_Bool (leb 128 (length levels))) [
      | inl above ↦ absurd (omega (arith, leb-true 128 (length levels) above))
      | inr below ↦ rw below refl
    ]

open_level-free : (at : ℕ) (levels : List Level) (found : Option Form) → IsFree levels found → length levels + 1 ≤ 128
    → open_level at levels found ≡ Ok (parser (record { at = at; items = [] } ∷ levels) found)
open_level-free at [] None free fits = deeper-fits at [] None fits
open_level-free at [] (Some g) free fits = absurd free
open_level-free at (level ∷ levels) found free fits = deeper-fits at (level ∷ levels) found fits

module _ (end : ℕ) where
  abbrev IsRead : Form → Type 0
  IsRead f = (levels : List Level) (found : Option Form) (ts : List Token) → IsFree levels found → nest f + length levels ≤ 128
      → parse end (spelling f ++ ts) (parser levels found) ≡ parse end ts (with_form f levels found)

  abbrev Read : Type 0
  Read = (f : Form) × IsRead f

  abbrev forms : List Read → List Form
  forms rs = map (λ r. r.0) rs

  -- the items of a list, one after another
  items_read : (rs : List Read) (at : ℕ) (before : List Form) (levels : List Level) (found : Option Form) (ts : List Token) → greatest (map nest (forms rs)) + 1 + length levels ≤ 128
      → parse end (flat_map spelling (forms rs) ++ ts) (parser (record { at = at; items = before } ∷ levels) found)
      ≡ parse end ts (parser (record { at = at; items = before ++ forms rs } ∷ levels) found)
  items_read [] at before levels found ts fits = rw append-nil refl
  items_read (r ∷ rs) at before levels found ts fits =
      let level : Level = record { at = at; items = before } in
      let regrouped : flat_map spelling (r.0 ∷ forms rs) ++ ts ≡ spelling r.0 ++ (flat_map spelling (forms rs) ++ ts) =
      ap (λ x. x ++ ts) (flat_map-cons spelling r.0 (forms rs)) ∙ append_assoc (spelling r.0) (flat_map spelling (forms rs)) ts in
      ap (λ x. parse end x (parser (level ∷ levels) found)) regrouped
      ∙ r.1 (level ∷ levels) found (flat_map spelling (forms rs) ++ ts) tt (omega arith)
      ∙ items_read rs at (before ++ r.0 ∷ []) levels found ts (omega arith)
      ∙ ap (λ x. parse end ts (parser (record { at = at; items = x } ∷ levels) found)) (append_assoc before (r.0 ∷ []) (forms rs))

  atom_read : (text : List ℕ) (at last : ℕ) → IsRead (form.Atom text at last)
  unfolding parse
  atom_read text at last levels found ts free fits =
      ap (λ x. parse end (x ++ ts) (parser levels found)) (spelling-Atom text at last)
      ∙ ap (λ r. r >>= parse end ts) (put_form-free (form.Atom text at last) at levels found free)

  group_read : (rs : List Read) (at last : ℕ) → IsRead (form.Group (forms rs) at last)
  unfolding parse
  group_read rs at last levels found ts free fits =
      let group = form.Group (forms rs) at last in
      let deep : greatest (map nest (forms rs)) + 1 + length levels ≤ 128 = rw (← nest-Group (forms rs) at last) fits in
      let regrouped : spelling group ++ ts ≡ token.Open at ∷ (flat_map spelling (forms rs) ++ (token.Close last ∷ ts)) =
      ap (λ x. x ++ ts) (spelling-Group (forms rs) at last) ∙ ap (λ x. token.Open at ∷ x) (append_assoc (flat_map spelling (forms rs)) (token.Close last ∷ []) ts) in
      ap (λ x. parse end x (parser levels found)) regrouped
      ∙ ap (λ r. r >>= parse end (flat_map spelling (forms rs) ++ (token.Close last ∷ ts))) (open_level-free at levels found free (omega arith))
      ∙ items_read rs at [] levels found (token.Close last ∷ ts) deep
      ∙ ap (λ r. r >>= parse end ts) (put_form-free group at levels found free)

  layer : (y : Form-F Read) → IsRead (roll-Form (map-Form Read Form (λ r. r.0) y))
  layer (Atom text at last) = subst IsRead (sym (form.rolls-Atom text at last)) (atom_read text at last)
  layer (Group rs at last) = subst IsRead (sym (form.rolls-Group (forms rs) at last)) (group_read rs at last)

  form_read : (f : Form) → IsRead f
  form_read = ind-Form IsRead (λ x y is. subst (λ z. IsRead (roll-Form z)) is (layer y))

pub only : (bytes : List ℕ) (end : ℕ) (r : Result Form FormFault) → Gives r (parse end (tokens bytes) start) → (f : Form) → Spells bytes f → Gives r (Ok f)
unfolding parse
only bytes end r gives f spells =
    let whole : tokens bytes ≡ spelling f ++ [] = spells.same ∙ sym (append-nil (spelling f)) in
    let read : parse end (tokens bytes) start ≡ Ok f = ap (λ ts. parse end ts start) whole ∙ form_read end f [] None [] tt (omega (arith, spells.shallow)) in
    subst (Gives r) read gives
