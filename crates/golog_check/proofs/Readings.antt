-- What stands where a reading gives a value.
use Rattle.std.proofs.Common.{◌≡◌, ℕ, Bool, true, false, refl, ap, Option, Some, None, Result, Ok, Err}
use Rattle.golog_rows.specs.Reading.{Reading, row, outcome_behind, ◌>>=◌, found}

abbrev IsGiven : {A B : Type 0} → Result A B → Type 0
IsGiven (Ok x) = Unit {0}
IsGiven (Err e) = ⊥

err-not : {A : Type 0} (e : ℕ × ℕ) (x : A) → ◌≡◌ {A = Result A (ℕ × ℕ)} (Err e) (Ok x) → ⊥
err-not e x h = cc

pub ok-same : {A : Type 0} (x y : A) → ◌≡◌ {A = Result A (ℕ × ℕ)} (Ok x) (Ok y) → x ≡ y
ok-same x y h = cc

-- the two readings of which one is made
pub record Both {A B : Type 0} (reading : Reading A) (next : A → Reading B) (y : B) : Type 0 where
  pub value : A
  pub one : reading.outcome ≡ Ok value
  pub other : (next value).outcome ≡ Ok y

pub both : {A B : Type 0} (reading : Reading A) (next : A → Reading B) (y : B) → (reading >>= next).outcome ≡ Ok y → Both reading next y
both {A} {B} reading next y h = go reading.outcome refl h
  where
    go : (o : Result A (ℕ × ℕ)) → reading.outcome ≡ o → outcome_behind o next ≡ Ok y → Both reading next y
    go (Ok x) e k = record { value = x; one = e; other = k }
    go (Err refusal) e k = absurd (err-not refusal y k)

-- the row does not fit
pub record Past {A : Type 0} (fits : Bool) (reading : Reading A) (y : A) : Type 0 where
  pub none : fits ≡ false
  pub rest : reading.outcome ≡ Ok y

pub past : {A : Type 0} (fits : Bool) (code at : ℕ) (rest : Reading A) (y : A) → (row fits code at rest).outcome ≡ Ok y → Past fits rest y
past true code at rest y h = absurd (err-not (code, at) y h)
past false code at rest y h = record { none = refl; rest = h }

pub found-it : {A : Type 0} (code at : ℕ) (o : Option A) (y : A) → (found code at o).outcome ≡ Ok y → o ≡ Some y
found-it code at None y h = absurd (err-not (code, at) y h)
found-it code at (Some x) y h = ap Some (ok-same x y h)
