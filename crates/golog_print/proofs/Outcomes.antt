-- What parts give, one behind another.
use Rattle.std.proofs.Common.{◌≡◌, ℕ, Bool, false, Option, Some, Ok, ap, ◌∙◌}
use Rattle.golog_rows.specs.Reading.{Reading, row, unless, outcome_behind, ◌>>=◌, found}

pub then-ok : {A B : Type 0} (reading : Reading A) (next : A → Reading B) (x : A) (y : B) → reading.outcome ≡ Ok x → (next x).outcome ≡ Ok y → (reading >>= next).outcome ≡ Ok y
then-ok reading next x y e h = ap (λ outcome. outcome_behind outcome next) e ∙ h

pub row-ok : {A : Type 0} (fits : Bool) (code at : ℕ) (rest : Reading A) (y : A) → fits ≡ false → rest.outcome ≡ Ok y → (row fits code at rest).outcome ≡ Ok y
row-ok fits code at rest y e h = ap (λ b. unless b (code, at) rest.outcome) e ∙ h

pub found-ok : {A : Type 0} (code at : ℕ) (o : Option A) (x : A) → o ≡ Some x → (found code at o).outcome ≡ Ok x
found-ok {A} code at o x e = ap (λ (o : Option A). (found code at o).outcome) e

pub ruleset laws = (then-ok, row-ok, found-ok)
