-- What is read can be printed: its atoms have only bytes of atoms, at least one.
use Rattle.std.proofs.Common.{◌≡◌, ℕ, ◌+◌, Bool, true, false, ◌&&◌, cond, eqb, List, [], ◌∷◌, map, Result, Ok, Err, refl, sym, ap, subst, ◌∙◌, IsTrue}
use Rattle.std.specs.Prelude.{IfOk}
use Rattle.std.specs.List.{flat_map, list_all}
use Rattle.std.proofs.lemmas.List.Concat.{flat_map-cons}
use Rattle.std.proofs.lemmas.List.Folds.{list_all-append}
use Rattle.golog_base.proofs.Bools.{and-true}
use Rattle.golog_form.specs.declared.class.ByteClass.{ByteClass}
use Rattle.golog_form.specs.declared.class.ByteClass.TheVariants as bytes
use Rattle.golog_form.specs.declared.form.Form.{Form}
use Rattle.golog_form.specs.declared.form.Form.TheOpen.{Form-F, Atom, Group}
use Rattle.golog_form.specs.declared.form.Form.TheVariants as form
use Rattle.golog_form.specs.declared.form.Form.TheViews.{roll-Form}
use Rattle.golog_form.specs.declared.form.Form.TheFolds.{ind-Form, map-Form}
use Rattle.golog_form.specs.declared.fault.FormFault.{FormFault}
use Rattle.golog_form.specs.declared.token.Token.{Token}
use Rattle.golog_form.specs.declared.token.Token.TheVariants as token
use Rattle.golog_form.specs.Gives.{Gives}
use Rattle.golog_form.specs.Parsing.{parse, start}
use Rattle.golog_form.specs.Printing.{atom_fits, atoms_fit}
use Rattle.golog_form.specs.Spelling.{spelling, Spells}
use Rattle.golog_form.specs.Tokens.{class, is_atom, starts_atom, first, longer, tokens_of, tokens}
use Rattle.golog_form.proofs.Found.{spelling-Atom, spelling-Group, found}
use Rattle.golog_form.proofs.ReadBack.{fit-Atom, fit-Group, and_left, and_right}

abbrev token_fits : Token → Bool
token_fits (token.Atom text at end) = atom_fits text
token_fits _ = true

-- ---- the tokens of bytes

pub both : (a b : Bool) → a ≡ true → b ≡ true → (a && b) ≡ true
both a b e f = rw (e, f) refl

-- one more atom byte in front
atom_fits-more : (b : ℕ) (text : List ℕ) → class b ≡ bytes.Atom → list_all (λ b. is_atom (class b)) text ≡ true → atom_fits (b ∷ text) ≡ true
atom_fits-more b text is fits = rw (is, fits) refl

longer-fits : (b at : ℕ) (ts : List Token) → class b ≡ bytes.Atom → list_all token_fits ts ≡ true → list_all token_fits (longer b at ts) ≡ true
longer-fits b at [] is fits = refl
longer-fits b at (token.Atom text begin end ∷ ts) is fits =
    let here = and_right (starts_atom text) (list_all (λ b. is_atom (class b)) text) (and_left (atom_fits text) (list_all token_fits ts) fits) in
    both (atom_fits (b ∷ text)) (list_all token_fits ts) (atom_fits-more b text is here) (and_right (atom_fits text) (list_all token_fits ts) fits)
longer-fits b at (token.Open begin ∷ ts) is fits = fits
longer-fits b at (token.Close end ∷ ts) is fits = fits
longer-fits b at (token.Bad begin ∷ ts) is fits = fits

first-fits : (c : ByteClass) (b at : ℕ) (bs : List ℕ) (outside inside : List Token) → class b ≡ c
    → list_all token_fits outside ≡ true → list_all token_fits inside ≡ true → list_all token_fits (first c b at bs outside inside) ≡ true
first-fits bytes.Separator b at bs outside inside is o i = o
first-fits bytes.Semicolon b at bs outside inside is o i = i
first-fits bytes.Open b at bs outside inside is o i = o
first-fits bytes.Close b at bs outside inside is o i = o
first-fits bytes.Atom b at bs outside inside is o i =
    elim (starts_atom bs) as (λ v. list_all token_fits (cond v (longer b at outside) (token.Atom (b ∷ []) at (at + 1) ∷ outside)) ≡ true) [
      | true ↦ longer-fits b at outside is o
      | false ↦ both (atom_fits (b ∷ [])) (list_all token_fits outside) (atom_fits-more b [] is refl) o
    ]
first-fits bytes.Bad b at bs outside inside is o i = o

tokens-fit : (in_comment : Bool) (at : ℕ) (bs : List ℕ) → list_all token_fits (tokens_of in_comment at bs) ≡ true
unfolding tokens_of
tokens-fit in_comment at [] = refl
tokens-fit true at (b ∷ bs) =
    elim (eqb b 10) as (λ v. list_all token_fits (cond v (tokens_of false (at + 1) bs) (tokens_of true (at + 1) bs)) ≡ true) [
      | true ↦ tokens-fit false (at + 1) bs
      | false ↦ tokens-fit true (at + 1) bs
    ]
tokens-fit false at (b ∷ bs) =
    first-fits (class b) b at bs (tokens_of false (at + 1) bs) (tokens_of true (at + 1) bs) refl (tokens-fit false (at + 1) bs) (tokens-fit true (at + 1) bs)

-- ---- the tokens of a form

abbrev FitsAlike : Form → Type 0
FitsAlike f = list_all token_fits (spelling f) ≡ atoms_fit f

abbrev Alike : Type 0
Alike = (f : Form) × FitsAlike f

abbrev forms : List Alike → List Form
forms rs = map (λ r. r.0) rs

items_alike : (rs : List Alike) → list_all token_fits (flat_map spelling (forms rs)) ≡ list_all (λ fits. fits) (map atoms_fit (forms rs))
items_alike [] = refl
items_alike (r ∷ rs) =
    ap (list_all token_fits) (flat_map-cons spelling r.0 (forms rs))
    ∙ list_all-append token_fits (spelling r.0) (flat_map spelling (forms rs))
    ∙ ap (λ b. b && list_all token_fits (flat_map spelling (forms rs))) r.1
    ∙ ap (λ b. atoms_fit r.0 && b) (items_alike rs)

layer : (y : Form-F Alike) → FitsAlike (roll-Form (map-Form Alike Form (λ r. r.0) y))
layer (Atom text at end) =
    subst FitsAlike (sym (form.rolls-Atom text at end))
    (ap (list_all token_fits) (spelling-Atom text at end) ∙ and-true (atom_fits text) ∙ sym (fit-Atom text at end))
layer (Group rs at end) =
    subst FitsAlike (sym (form.rolls-Group (forms rs) at end))
    (ap (list_all token_fits) (spelling-Group (forms rs) at end)
    ∙ list_all-append token_fits (flat_map spelling (forms rs)) (token.Close end ∷ [])
    ∙ and-true (list_all token_fits (flat_map spelling (forms rs)))
    ∙ items_alike rs
    ∙ sym (fit-Group (forms rs) at end))

form_alike : (f : Form) → FitsAlike f
form_alike = ind-Form FitsAlike (λ x y is. subst (λ z. FitsAlike (roll-Form z)) is (layer y))

spelled-fits : (text : List ℕ) (f : Form) → Spells text f → IsTrue (atoms_fit f)
spelled-fits text f spells = sym (form_alike f) ∙ ap (list_all token_fits) (sym spells.same) ∙ tokens-fit false 0 text

pub printable : (text : List ℕ) (end : ℕ) (r : Result Form FormFault) → Gives r (parse end (tokens text) start) → IfOk r (λ f. IsTrue (atoms_fit f))
printable text end (Ok f) gives = spelled-fits text f (found text end (Ok f) gives)
printable text end (Err fault) gives = tt
