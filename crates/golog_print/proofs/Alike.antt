-- Forms that are alike, their places aside: they have the same word, and parts that are alike.
use Rattle.std.proofs.Common.{◌≡◌, ℕ, List, [], ◌∷◌, map, refl, sym, ap, subst, ◌∙◌}
use Rattle.golog_form.specs.declared.form.Form.{Form}
use Rattle.golog_form.specs.declared.form.Form.TheOpen.{Form-F, Atom, Group}
use Rattle.golog_form.specs.declared.form.Form.TheVariants as form
use Rattle.golog_form.specs.declared.form.Form.TheViews.{roll-Form}
use Rattle.golog_form.specs.declared.form.Form.TheFolds.{fold-roll-Form, ind-Form}
use Rattle.golog_form.specs.Printing.{plain_step, plain}
use Rattle.golog_theory.specs.Parts.{word, parts}
use Rattle.golog_theory.proofs.Forms.{parts-Atom, parts-Group}

plain-Atom : (text : List ℕ) (at end : ℕ) → plain (form.Atom text at end) ≡ form.Atom text 0 0
plain-Atom text at end = ap plain (sym (form.rolls-Atom text at end)) ∙ fold-roll-Form Form plain_step (Atom text at end)

plain-Group : (items : List Form) (at end : ℕ) → plain (form.Group items at end) ≡ form.Group (map plain items) 0 0
plain-Group items at end = ap plain (sym (form.rolls-Group items at end)) ∙ fold-roll-Form Form plain_step (Group items at end)

pub word-Atom : (text : List ℕ) (at end : ℕ) → word (form.Atom text at end) ≡ text
word-Atom text at end = rw (form.outs-Atom text at end) refl

pub word-Group : (items : List Form) (at end : ℕ) → word (form.Group items at end) ≡ []
word-Group items at end = rw (form.outs-Group items at end) refl

-- a form without its places has the same word, and the same parts without theirs
record Kept (f : Form) : Type 0 where
  text : word (plain f) ≡ word f
  inner : parts (plain f) ≡ map plain (parts f)

kept-atom : (text : List ℕ) (at end : ℕ) → Kept (form.Atom text at end)
kept-atom text at end = record {
  text = ap word (plain-Atom text at end) ∙ word-Atom text 0 0 ∙ sym (word-Atom text at end);
  inner = ap parts (plain-Atom text at end) ∙ parts-Atom text 0 0 ∙ sym (ap (map plain) (parts-Atom text at end));
}

kept-group : (items : List Form) (at end : ℕ) → Kept (form.Group items at end)
kept-group items at end = record {
  text = ap word (plain-Group items at end) ∙ word-Group (map plain items) 0 0 ∙ sym (word-Group items at end);
  inner = ap parts (plain-Group items at end) ∙ parts-Group (map plain items) 0 0 ∙ sym (ap (map plain) (parts-Group items at end));
}

layer : (y : Form-F Form) → Kept (roll-Form y)
layer (Atom text at end) = subst Kept (sym (form.rolls-Atom text at end)) (kept-atom text at end)
layer (Group items at end) = subst Kept (sym (form.rolls-Group items at end)) (kept-group items at end)

kept : (f : Form) → Kept f
kept = ind-Form Kept (λ x y is. layer x)

abbrev pub Alike : Form → Form → Type 0
Alike f g = plain f ≡ plain g

abbrev pub AreAlike : List Form → List Form → Type 0
AreAlike fs gs = map plain fs ≡ map plain gs

pub alike-word : (f g : Form) → Alike f g → word f ≡ word g
alike-word f g e = sym (kept f).text ∙ ap word e ∙ (kept g).text

pub alike-parts : (f g : Form) → Alike f g → AreAlike (parts f) (parts g)
alike-parts f g e = sym (kept f).inner ∙ ap parts e ∙ (kept g).inner

pub word-as : (f : Form) (text : List ℕ) → Alike f (form.Atom text 0 0) → word f ≡ text
word-as f text e = alike-word f (form.Atom text 0 0) e ∙ word-Atom text 0 0

-- forms of which the first is like one
pub record First (fs : List Form) (g : Form) (gs : List Form) : Type 0 where
  pub first : Form
  pub others : List Form
  pub are : fs ≡ first ∷ others
  pub alike : Alike first g
  pub rest : AreAlike others gs

head_or : Form → List Form → Form
head_or f [] = f
head_or f (g ∷ gs) = g

tail_of : List Form → List Form
tail_of [] = []
tail_of (g ∷ gs) = gs

IsSome : List Form → Type 0
IsSome [] = ⊥
IsSome (f ∷ fs) = Unit {0}

pub first-of : (fs : List Form) (g : Form) (gs : List Form) → AreAlike fs (g ∷ gs) → First fs g gs
unfolding head_or tail_of IsSome
first-of [] g gs e = absurd (subst IsSome (sym e) tt)
first-of (f ∷ fs) g gs e = record { first = f; others = fs; are = refl; alike = ap (head_or f) e; rest = ap tail_of e }

pub none-of : (fs : List Form) → AreAlike fs [] → fs ≡ []
unfolding IsSome
none-of [] e = refl
none-of (f ∷ fs) e = absurd (subst IsSome e tt)

pub ruleset laws = (alike-word)
