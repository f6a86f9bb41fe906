-- The text of a form is read as that form, but for its places.
use Rattle.std.proofs.Common.{◌≡◌, ℕ, ◌+◌, Bool, true, false, ◌&&◌, length, List, [], ◌∷◌, ◌++◌, map, refl, sym, ap, subst, ◌∙◌, append_assoc, add-one}
use Rattle.std.specs.List.{flat_map, list_all}
use Rattle.std.proofs.lemmas.List.{append-nil, take_at, drop_at}
use Rattle.std.proofs.lemmas.List.Concat.{flat_map-cons}
use Rattle.golog_form.specs.declared.form.Form.{Form}
use Rattle.golog_form.specs.declared.form.Form.TheOpen.{Form-F, Atom, Group}
use Rattle.golog_form.specs.declared.form.Form.TheVariants as form
use Rattle.golog_form.specs.declared.form.Form.TheViews.{roll-Form}
use Rattle.golog_form.specs.declared.form.Form.TheFolds.{fold-roll-Form, ind-Form, map-Form}
use Rattle.golog_form.specs.declared.token.Token.{Token}
use Rattle.golog_form.specs.declared.token.Token.TheVariants as token
use Rattle.golog_form.specs.Tokens.{class, is_atom, starts_atom, run, tokens_of, tokens}
use Rattle.golog_form.specs.Spelling.{spelling}
use Rattle.golog_form.specs.Printing.{spaced, text_step, text_of, atom_fits, fit_step, atoms_fit, plain_step, plain, ReadsBack}
use Rattle.golog_form.proofs.Found.{spelling-Atom, spelling-Group}
use Rattle.golog_form.proofs.Lexing.{atom_first}

text_of-Atom : (text : List ℕ) (at end : ℕ) → text_of (form.Atom text at end) ≡ text
text_of-Atom text at end = ap text_of (sym (form.rolls-Atom text at end)) ∙ fold-roll-Form (List ℕ) text_step (Atom text at end)

text_of-Group : (items : List Form) (at end : ℕ) → text_of (form.Group items at end) ≡ 40 ∷ spaced (map text_of items) ++ 41 ∷ []
text_of-Group items at end = ap text_of (sym (form.rolls-Group items at end)) ∙ fold-roll-Form (List ℕ) text_step (Group items at end)

pub fit-Atom : (text : List ℕ) (at end : ℕ) → atoms_fit (form.Atom text at end) ≡ atom_fits text
fit-Atom text at end = ap atoms_fit (sym (form.rolls-Atom text at end)) ∙ fold-roll-Form Bool fit_step (Atom text at end)

pub fit-Group : (items : List Form) (at end : ℕ) → atoms_fit (form.Group items at end) ≡ list_all (λ fits. fits) (map atoms_fit items)
fit-Group items at end = ap atoms_fit (sym (form.rolls-Group items at end)) ∙ fold-roll-Form Bool fit_step (Group items at end)

plain-Atom : (text : List ℕ) (at end : ℕ) → plain (form.Atom text at end) ≡ form.Atom text 0 0
plain-Atom text at end = ap plain (sym (form.rolls-Atom text at end)) ∙ fold-roll-Form Form plain_step (Atom text at end)

plain-Group : (items : List Form) (at end : ℕ) → plain (form.Group items at end) ≡ form.Group (map plain items) 0 0
plain-Group items at end = ap plain (sym (form.rolls-Group items at end)) ∙ fold-roll-Form Form plain_step (Group items at end)

pub and_left : (a b : Bool) → (a && b) ≡ true → a ≡ true
and_left true b e = refl
and_left false b e = e

pub and_right : (a b : Bool) → (a && b) ≡ true → b ≡ true
and_right true b e = e
and_right false b e = cc

run-text : (text rest : List ℕ) → list_all (λ b. is_atom (class b)) text ≡ true → starts_atom rest ≡ false → run (text ++ rest) ≡ length text
unfolding run
run-text [] [] fits ends = refl
run-text [] (b ∷ rest) fits ends = rw ends refl
run-text (b ∷ text) rest fits ends =
    let here = and_left (is_atom (class b)) (list_all (λ b. is_atom (class b)) text) fits in
    let next = run-text text rest (and_right (is_atom (class b)) (list_all (λ b. is_atom (class b)) text) fits) ends in
    rw (here, next, add-one) refl

starts-text : (text rest : List ℕ) → starts_atom text ≡ true → starts_atom (text ++ rest) ≡ true
starts-text [] rest e = cc
starts-text (b ∷ text) rest e = e

-- what is shown of a form
abbrev IsReadBack : Form → Type 0
IsReadBack f = atoms_fit f ≡ true → (at : ℕ) (rest : List ℕ) → starts_atom rest ≡ false
    → (again : Form) × (end : ℕ) × (tokens_of false at (text_of f ++ rest) ≡ spelling again ++ tokens_of false end rest) × (plain again ≡ plain f)

abbrev Read : Type 0
Read = (f : Form) × IsReadBack f

abbrev forms : List Read → List Form
forms rs = map (λ r. r.0) rs

atom_back : (text : List ℕ) (from last : ℕ) → IsReadBack (form.Atom text from last)
atom_back text from last fit at rest ends =
    let fits : atom_fits text ≡ true = sym (fit-Atom text from last) ∙ fit in
    let starts = starts-text text rest (and_left (starts_atom text) (list_all (λ b. is_atom (class b)) text) fits) in
    let count = run-text text rest (and_right (starts_atom text) (list_all (λ b. is_atom (class b)) text) fits) ends in
    let end = at + length text in
    let read : tokens_of false at (text ++ rest) ≡ token.Atom text at end ∷ tokens_of false end rest =
    atom_first at (text ++ rest) starts ∙ rw (count, take_at text rest (length text) refl, drop_at text rest (length text) refl) refl in
    (form.Atom text at end, end, ap (λ t. tokens_of false at (t ++ rest)) (text_of-Atom text from last) ∙ read ∙ ap (λ ts. ts ++ tokens_of false end rest) (sym (spelling-Atom text at end)), plain-Atom text at end ∙ sym (plain-Atom text from last))

abbrev spaces : List Form → List ℕ
spaces fs = flat_map (λ t. 32 ∷ t) (map text_of fs)

spaces-cons : (f : Form) (fs : List Form) (rest : List ℕ) → spaces (f ∷ fs) ++ rest ≡ 32 ∷ (text_of f ++ (spaces fs ++ rest))
spaces-cons f fs rest = ap (λ x. x ++ rest) (flat_map-cons (λ t. 32 ∷ t) (text_of f) (map text_of fs)) ∙ ap (λ x. 32 ∷ x) (append_assoc (text_of f) (spaces fs) rest)

spaces-end : (fs : List Form) (rest : List ℕ) → starts_atom rest ≡ false → starts_atom (spaces fs ++ rest) ≡ false
spaces-end [] rest e = e
spaces-end (f ∷ fs) rest e = ap starts_atom (spaces-cons f fs rest)

skip_space : (at : ℕ) (bs : List ℕ) → tokens_of false at (32 ∷ bs) ≡ tokens_of false (at + 1) bs
unfolding tokens_of
skip_space at bs = refl

take_open : (at : ℕ) (bs : List ℕ) → tokens_of false at (40 ∷ bs) ≡ token.Open at ∷ tokens_of false (at + 1) bs
unfolding tokens_of
take_open at bs = refl

take_close : (at : ℕ) (bs : List ℕ) → tokens_of false at (41 ∷ bs) ≡ token.Close (at + 1) ∷ tokens_of false (at + 1) bs
unfolding tokens_of
take_close at bs = refl

abbrev AreBack : List Read → ℕ → List ℕ → List ℕ → Type 0
AreBack rs at text rest = (agains : List Form) × (end : ℕ) × (tokens_of false at (text ++ rest) ≡ flat_map spelling agains ++ tokens_of false end rest) × (map plain agains ≡ map plain (forms rs))

one_more : (again : Form) (agains : List Form) (ts : List Token) → spelling again ++ (flat_map spelling agains ++ ts) ≡ flat_map spelling (again ∷ agains) ++ ts
one_more again agains ts = sym (append_assoc (spelling again) (flat_map spelling agains) ts) ∙ ap (λ x. x ++ ts) (sym (flat_map-cons spelling again agains))

-- the items behind the first
others_back : (rs : List Read) → list_all (λ fits. fits) (map atoms_fit (forms rs)) ≡ true → (at : ℕ) (rest : List ℕ) → starts_atom rest ≡ false → AreBack rs at (spaces (forms rs)) rest
others_back [] fit at rest ends = ([], at, refl, refl)
others_back (r ∷ rs) fit at rest ends =
    let one = r.1 (and_left (atoms_fit r.0) (list_all (λ fits. fits) (map atoms_fit (forms rs))) fit) (at + 1) (spaces (forms rs) ++ rest) (spaces-end (forms rs) rest ends) in
    let others = others_back rs (and_right (atoms_fit r.0) (list_all (λ fits. fits) (map atoms_fit (forms rs))) fit) one.1 rest ends in (
      one.0 ∷ others.0,
      others.1,
      ap (tokens_of false at) (spaces-cons r.0 (forms rs) rest) ∙ skip_space at (text_of r.0 ++ (spaces (forms rs) ++ rest)) ∙ one.2 ∙ ap (λ ts. spelling one.0 ++ ts) others.2 ∙ one_more one.0 others.0 (tokens_of false others.1 rest),
      ap (λ f. f ∷ map plain others.0) one.3 ∙ ap (λ fs. plain r.0 ∷ fs) others.3,
    )

items_back : (rs : List Read) → list_all (λ fits. fits) (map atoms_fit (forms rs)) ≡ true → (at : ℕ) (rest : List ℕ) → starts_atom rest ≡ false → AreBack rs at (spaced (map text_of (forms rs))) rest
items_back [] fit at rest ends = ([], at, refl, refl)
items_back (r ∷ rs) fit at rest ends =
    let one = r.1 (and_left (atoms_fit r.0) (list_all (λ fits. fits) (map atoms_fit (forms rs))) fit) at (spaces (forms rs) ++ rest) (spaces-end (forms rs) rest ends) in
    let others = others_back rs (and_right (atoms_fit r.0) (list_all (λ fits. fits) (map atoms_fit (forms rs))) fit) one.1 rest ends in (
      one.0 ∷ others.0,
      others.1,
      ap (tokens_of false at) (append_assoc (text_of r.0) (spaces (forms rs)) rest) ∙ one.2 ∙ ap (λ ts. spelling one.0 ++ ts) others.2 ∙ one_more one.0 others.0 (tokens_of false others.1 rest),
      ap (λ f. f ∷ map plain others.0) one.3 ∙ ap (λ fs. plain r.0 ∷ fs) others.3,
    )

group_back : (rs : List Read) (from last : ℕ) → IsReadBack (form.Group (forms rs) from last)
group_back rs from last fit at rest ends =
    let inner = items_back rs (sym (fit-Group (forms rs) from last) ∙ fit) (at + 1) (41 ∷ rest) refl in
    let text = spaced (map text_of (forms rs)) in
    let end = inner.1 + 1 in
    let again = form.Group inner.0 at end in
    let regrouped : text_of (form.Group (forms rs) from last) ++ rest ≡ 40 ∷ (text ++ 41 ∷ rest) =
    ap (λ t. t ++ rest) (text_of-Group (forms rs) from last) ∙ ap (λ t. 40 ∷ t) (append_assoc text (41 ∷ []) rest) in
    let spelled : spelling again ++ tokens_of false end rest ≡ token.Open at ∷ (flat_map spelling inner.0 ++ token.Close end ∷ tokens_of false end rest) =
    ap (λ ts. ts ++ tokens_of false end rest) (spelling-Group inner.0 at end) ∙ ap (λ ts. token.Open at ∷ ts) (append_assoc (flat_map spelling inner.0) (token.Close end ∷ []) (tokens_of false end rest)) in (
      again,
      end,
      ap (tokens_of false at) regrouped ∙ take_open at (text ++ 41 ∷ rest) ∙ ap (λ ts. token.Open at ∷ ts) (inner.2 ∙ ap (λ ts. flat_map spelling inner.0 ++ ts) (take_close inner.1 rest)) ∙ sym spelled,
      plain-Group inner.0 at end ∙ ap (λ fs. form.Group fs 0 0) inner.3 ∙ sym (plain-Group (forms rs) from last),
    )

layer : (y : Form-F Read) → IsReadBack (roll-Form (map-Form Read Form (λ r. r.0) y))
layer (Atom text from last) = subst IsReadBack (sym (form.rolls-Atom text from last)) (atom_back text from last)
layer (Group rs from last) = subst IsReadBack (sym (form.rolls-Group (forms rs) from last)) (group_back rs from last)

form_back : (f : Form) → IsReadBack f
form_back = ind-Form IsReadBack (λ x y is. subst (λ z. IsReadBack (roll-Form z)) is (layer y))

nothing_left : (at : ℕ) → tokens_of false at [] ≡ []
unfolding tokens_of
nothing_left at = refl

pub reads_back : (text : List ℕ) (f : Form) → atoms_fit f ≡ true → text ≡ text_of f → ReadsBack text f
reads_back text f fit e =
    let back = form_back f fit 0 [] refl in
    let whole : tokens text ≡ spelling back.0 = ap (tokens_of false 0) (e ∙ sym (append-nil (text_of f))) ∙ back.2 ∙ ap (λ ts. spelling back.0 ++ ts) (nothing_left back.1) ∙ append-nil (spelling back.0) in
    (back.0, whole, back.3)
