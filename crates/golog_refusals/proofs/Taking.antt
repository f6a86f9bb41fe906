-- What stands where each part of a reading gives a value, read forwards; and arguments by what they are.
use Rattle.std.proofs.Common.{◌≡◌, ℕ, ◌+◌, Bool, true, false, List, [], ◌∷◌, ◌++◌, length, sym, ap, ◌∙◌, Result, Ok, length-append, true≢false}
use Rattle.std.proofs.lemmas.Bool.{eqb-true}
use Rattle.golog_tree.specs.declared.cond.Arg.{Arg}
use Rattle.golog_tree.specs.declared.cond.Arg.TheVariants.{Const, Var}
use Rattle.golog_rows.specs.Reading.{Reading, unless, row, outcome_behind, ◌>>=◌}
use Rattle.golog_check.proofs.ArgLaws.{same-number}
use Rattle.golog_refusals.specs.Says.{same_arg}

pub never : false ≡ true → ⊥
never h = true≢false (sym h)

-- a row that does not fit
pub past-by : {A : Type 0} (fits : Bool) (code at : ℕ) (rest : Reading A) → fits ≡ false
    → (row fits code at rest).outcome ≡ rest.outcome
past-by fits code at rest e = ap (λ (b : Bool). unless b (code, at) rest.outcome) e

-- a reading behind one that gives a value
pub then-by : {A B : Type 0} (reading : Reading A) (next : A → Reading B) (x : A) → reading.outcome ≡ Ok x
    → (reading >>= next).outcome ≡ (next x).outcome
then-by {A} {B} reading next x e = ap (λ (o : Result A (ℕ × ℕ)). outcome_behind o next) e

-- the same argument
pub same-arg-is : (a b : Arg) → same_arg a b ≡ true → a ≡ b
same-arg-is (Const c) (Const d) h = ap Const (eqb-true c d h)
same-arg-is (Const c) (Var y) h = absurd (never h)
same-arg-is (Var x) (Const d) h = absurd (never h)
same-arg-is (Var x) (Var y) h = ap Var (eqb-true x y h)

pub same-arg-itself : (a : Arg) → same_arg a a ≡ true
same-arg-itself (Const c) = same-number c
same-arg-itself (Var x) = same-number x

pub longer : {A B : Type 0} (xs : List A) (ys : List B) (x : A) (y : B) → length xs ≡ length ys
    → length (xs ++ x ∷ []) ≡ length (ys ++ y ∷ [])
longer xs ys x y e = length-append xs (x ∷ []) ∙ ap (λ (n : ℕ). n + 1) e ∙ sym (length-append ys (y ∷ []))
