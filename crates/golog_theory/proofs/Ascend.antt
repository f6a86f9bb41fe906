-- Places that ascend, and those of parts that are read one after another.
use Rattle.std.proofs.Common.{◌≡◌, ℕ, ◌+◌, ◌≤◌, List, [], ◌∷◌, ◌++◌, map, sym, subst, arith}
use Rattle.golog_form.specs.declared.form.Form.{Form}
use Rattle.golog_form.specs.Shape.{place_of}
use Rattle.golog_form.specs.Places.{IsInOrder}
use Rattle.golog_draft.specs.DraftOrder.{Ascend, IsAscending, AreAscending, Rise}
use Rattle.golog_theory.specs.Reading.{Reading, each}
use Rattle.golog_theory.proofs.Inside.{end_of, Between}
use Rattle.golog_theory.proofs.Yields.{Yields, gives-yields, then-yields}

-- the places from an earlier place on, and up to a later one
pub ascend-low : (from later to : ℕ) (places : List ℕ) → from ≤ later → Ascend later places to → Ascend from places to
ascend-low from later to [] le a = omega (arith, a)
ascend-low from later to (at ∷ places) le a = (omega (arith, a.0), a.1)

pub ascend-high : (from to later : ℕ) (places : List ℕ) → to ≤ later → Ascend from places to → Ascend from places later
ascend-high from to later [] le a = omega (arith, a)
ascend-high from to later (at ∷ places) le a = (a.0, ascend-high (at + 1) to later places le a.1)

-- places behind others
pub ascend-append : (from mid to : ℕ) (ones others : List ℕ) → Ascend from ones mid → Ascend mid others to → Ascend from (ones ++ others) to
ascend-append from mid to [] others a b = ascend-low from mid to others a b
ascend-append from mid to (at ∷ ones) others a b = (a.0, ascend-append (at + 1) mid to ones others a.1 b)

pub is_ascending : (from : ℕ) (places : List ℕ) (to : ℕ) → Ascend from places to → IsAscending places
is_ascending from places to a = (to, ascend-low 0 from to places (omega arith) a)

pub are_push : {X : Type 0} (places : X → List ℕ) (xs : List X) (x : X) → AreAscending (map places xs) → IsAscending (places x)
    → AreAscending (map places (xs ++ x ∷ []))
are_push places [] x are is = (is, tt)
are_push places (y ∷ xs) x are is = (are.0, are_push places xs x are.1 is)

-- places that stand in order, none behind the last
abbrev pub RiseTo : ℕ → List ℕ → ℕ → Type 0
RiseTo from [] to = from ≤ to
RiseTo from (at ∷ places) to = (from ≤ at) × RiseTo at places to

pub rise : (from : ℕ) (places : List ℕ) (to : ℕ) → RiseTo from places to → Rise from places
rise from [] to r = tt
rise from (at ∷ places) to r = (r.0, rise at places to r.1)

pub rise-to : (from : ℕ) (places : List ℕ) (to later : ℕ) → to ≤ later → RiseTo from places to → RiseTo from places later
rise-to from [] to later le r = omega (arith, r)
rise-to from (at ∷ places) to later le r = (r.0, rise-to at places to later le r.1)

pub rise_push : {X : Type 0} (place : X → ℕ) (from : ℕ) (xs : List X) (x : X) (to later : ℕ) → RiseTo from (map place xs) to → to ≤ place x → place x ≤ later
    → RiseTo from (map place (xs ++ x ∷ [])) later
rise_push place from [] x to later r le le' = (omega (arith, r, le), le')
rise_push place from (y ∷ xs) x to later r le le' = (r.0, rise_push place (place y) xs x to later r.1 le le')

-- the places of what a part spells ascend, from the place of its form on and before its end
abbrev pub Ascends : {A : Type 0} → (A → List ℕ) → Form → Reading A → Type 0
Ascends places f reading = Yields (λ x. Ascend (place_of f) (places x) (end_of f)) reading

-- parts, one after another
module _ {A : Type 0} (read : Form → Reading A) (own : A → List ℕ) (all : List A → List ℕ) (push : (xs : List A) (x : A) → all (xs ++ x ∷ []) ≡ all xs ++ own x)
    (known : (f : Form) → IsInOrder f → Ascends own f (read f)) where
  pub each-ascend : (before : List A) (low from : ℕ) (fs : List Form) (to : ℕ) → Ascend low (all before) from → Between from fs to
      → Yields (λ xs. Ascend low (all xs) to) (each (λ (_ : List A). read) before fs)
  each-ascend before low from [] to a b = gives-yields (λ xs. Ascend low (all xs) to) before (ascend-high low from to (all before) b a)
  each-ascend before low from (f ∷ fs) to a b =
      then-yields _ _ (read f).outcome _ (known f b.1) (λ x is.
      each-ascend (before ++ x ∷ []) low (end_of f) fs to
      (subst (λ places. Ascend low places (end_of f)) (sym (push before x))
      (ascend-append low (place_of f) (end_of f) (all before) (own x) (ascend-high low from (place_of f) (all before) b.0 a) is)) b.2)
