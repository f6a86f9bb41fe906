-- What an index tells of the lists of a theory.
use Rattle.std.proofs.Common.{◌≡◌, ℕ, ◌+◌, Bool, true, false, List, [], ◌∷◌, Option, Some, None, refl, sym, ap, ◌∙◌, cond}
use Rattle.std.specs.Prelude.{◌||◌, position, is_some}
use Rattle.std.specs.List.{position_from, list_any}
use Rattle.std.proofs.lemmas.Iterator.Adapters.{position_from-zero}

any_from : {T : Type 0} (test : T → Bool) (k : ℕ) (items : List T) → is_some (position_from test k items) ≡ list_any test items
any_from test k [] = refl
any_from test k (item ∷ items) = step (test item) (position_from test (k + 1) items) (list_any test items) (any_from test (k + 1) items)
  where
    step : (b : Bool) (rest : Option ℕ) (any : Bool) → is_some rest ≡ any → is_some (cond b (Some k) rest) ≡ (b || any)
    step true rest any e = refl
    step false rest any e = e

-- some item passes where one has a number
pub is_some-position : {T : Type 0} (test : T → Bool) (items : List T) → is_some (position test items) ≡ list_any test items
is_some-position test items = ap is_some (position_from-zero test items) ∙ any_from test 0 items

pub ruleset laws = (is_some-position)
