-- What tests put together by `&&`, `||` and `if` say.
use Rattle.std.proofs.Common.{◌≡◌, ◌⊎◌, inl, inr, Bool, true, false, ◌&&◌, ◌||◌, if◌then◌else◌, List, [], ◌∷◌, refl, sym, subst}
use Rattle.std.specs.List.{list_any}

pub and_both : (a b : Bool) → a ≡ true → b ≡ true → (a && b) ≡ true
and_both a b e h = subst (λ c. (c && b) ≡ true) (sym e) h

pub and_cases : (a b : Bool) → (a && b) ≡ true → (a ≡ true) × (b ≡ true)
and_cases true b e = (refl, e)
and_cases false b e = absurd (cc)

pub or_cases : (a b : Bool) → (a || b) ≡ true → (a ≡ true) ⊎ (b ≡ true)
or_cases true b e = inl refl
or_cases false b e = inr e

pub or_first : (a b : Bool) → a ≡ true → (a || b) ≡ true
or_first a b e = subst (λ d. (d || b) ≡ true) (sym e) refl

pub or_second : (a b : Bool) → b ≡ true → (a || b) ≡ true
or_second true b e = refl
or_second false b e = e

pub neither_first : (a b : Bool) → (a || b) ≡ false → a ≡ false
neither_first true b e = e
neither_first false b e = refl

pub neither_second : (a b : Bool) → (a || b) ≡ false → b ≡ false
neither_second true b e = absurd (cc)
neither_second false b e = e

-- each goes on where its parts do
pub and_more : (b b' c c' : Bool) → (b ≡ true → b' ≡ true) → (c ≡ true → c' ≡ true) → (b && c) ≡ true → (b' && c') ≡ true
and_more true b' c c' h k e = subst (λ d. (d && c') ≡ true) (sym (h refl)) (k e)
and_more false b' c c' h k e = cc

pub or_more : (b b' c c' : Bool) → (b ≡ true → b' ≡ true) → (c ≡ true → c' ≡ true) → (b || c) ≡ true → (b' || c') ≡ true
or_more true b' c c' h k e = subst (λ d. (d || c') ≡ true) (sym (h refl)) refl
or_more false true c c' h k e = refl
or_more false false c c' h k e = k e

pub if_more : (t s u p q : Bool) → (p ≡ true → q ≡ true) → (s ≡ true → u ≡ true) → (if t then p else s) ≡ true → (if t then q else u) ≡ true
if_more true s u p q h k e = h e
if_more false s u p q h k e = k e

pub any_more : {A : Type 0} (f g : A → Bool) → ((x : A) → f x ≡ true → g x ≡ true) → (xs : List A) → list_any f xs ≡ true → list_any g xs ≡ true
any_more f g h [] e = e
any_more f g h (x ∷ xs) e = or_more (f x) (g x) (list_any f xs) (list_any g xs) (h x) (any_more f g h xs) e
