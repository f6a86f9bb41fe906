-- What follows where both of two conditions hold, or one doesn't.
use Rattle.std.proofs.Common.{◌≡◌, refl, sym, Bool, true, false, not, Option, None, true≢false}
use Rattle.std.specs.Prelude.{◌&&◌, if◌then◌else◌}

pub first : (a b : Bool) → (a && b) ≡ true → a ≡ true
first true b e = refl
first false b e = absurd (true≢false (sym e))

pub second : (a b : Bool) → (a && b) ≡ true → b ≡ true
second true b e = e
second false b e = absurd (true≢false (sym e))

pub is_no : (a : Bool) → not a ≡ true → a ≡ false
is_no false e = refl
is_no true e = absurd (true≢false (sym e))

-- where nothing is given under a test, nothing is given
pub none_under : {X : Type 0} → (test : Bool) (given : Option X) → (test ≡ true → given ≡ None)
    → (if test then given else None) ≡ None
none_under true given h = h refl
none_under false given h = refl

-- where a property of what is given holds under a test, and of nothing, it holds
pub holds_under : {X : Type 0} → (P : Option X → Type 0) (test : Bool) (given : Option X) → P None
    → (test ≡ true → P given) → P (if test then given else None)
holds_under P true given nothing h = h refl
holds_under P false given nothing h = nothing
