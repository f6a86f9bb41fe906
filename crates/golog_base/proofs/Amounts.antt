-- The amount that digits spell only grows.
use Rattle.std.proofs.Common.{◌≡◌, ℕ, ◌+◌, ◌*◌, ◌-◌, ◌<◌, ◌≤◌, List, [], ◌∷◌, length, get_or, drop, refl, ap, add-one, drop-cons, arith}
use Rattle.golog_base.specs.Numbers.{amount_on}

amount_on-above : (n : ℕ) (digits : List ℕ) → n ≤ amount_on n digits
amount_on-above n [] = omega arith
amount_on-above n (b ∷ bs) = omega (arith, amount_on-above (10 * n + (b - 48)) bs)

pub amount_wide : (digits : List ℕ) (most i n : ℕ) → i < length digits → most < 10 * n + (get_or digits i 0 - 48) → most < amount_on n (drop i digits)
amount_wide digits most i n lt wide =
    let above = amount_on-above (10 * n + (get_or digits i 0 - 48)) (drop (i + 1) digits) in
    let here : drop i digits ≡ get_or digits i 0 ∷ drop (i + 1) digits = rw (add-one, drop-cons digits i 0) refl in
    let e : amount_on n (drop i digits) ≡ amount_on (10 * n + (get_or digits i 0 - 48)) (drop (i + 1) digits) = ap (amount_on n) here in
    omega (arith, e, above)
