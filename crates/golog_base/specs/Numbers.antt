-- The numbers that digits spell.
use Rattle.std.specs.Prelude.{ℕ, ℤ, pos, negsuc, ◌+◌, ◌-◌, ◌*◌, ◌^◌, nat_eq, nat_lt, nat_le, not, ◌&&◌, ◌||◌, Bool, true, false, if◌then◌else◌, List, [], ◌∷◌, Option, Some, None}
use Rattle.std.specs.List.{list_all}
use Rattle.golog_base.specs.Names.{is_digit}

-- digits, at least one
abbrev pub are_digits : List ℕ → Bool
are_digits [] = false
are_digits (byte ∷ bytes) = is_digit byte && list_all is_digit bytes

-- the text is `0`
abbrev pub is_zero : List ℕ → Bool
is_zero (byte ∷ []) = nat_eq byte 48
is_zero _ = false

-- digits of which the first is not `0`
abbrev pub is_positive : List ℕ → Bool
is_positive [] = false
is_positive (byte ∷ bytes) = are_digits (byte ∷ bytes) && not (nat_eq byte 48)

-- digits without a leading zero
abbrev pub is_natural : List ℕ → Bool
is_natural bytes = is_zero bytes || is_positive bytes

-- a `-` before the digits
abbrev pub has_sign : List ℕ → Bool
has_sign [] = false
has_sign (byte ∷ bytes) = nat_eq byte 45

abbrev pub without_sign : List ℕ → List ℕ
without_sign [] = []
without_sign (byte ∷ bytes) = if nat_eq byte 45 then bytes else byte ∷ bytes

-- A number is `0`, or an optional `-` and digits of which the first is not `0`.
abbrev pub is_number : List ℕ → Bool
is_number text = if is_zero text then true else is_positive (without_sign text)

-- the number that digits spell, behind the one that is spelled so far
abbrev pub amount_on : ℕ → List ℕ → ℕ
amount_on n [] = n
amount_on n (byte ∷ bytes) = amount_on (10 * n + (byte - 48)) bytes

-- the number that digits spell
abbrev pub amount : List ℕ → ℕ
amount digits = amount_on 0 digits

-- minus so many
abbrev pub minus : ℕ → ℤ
minus n = if nat_eq n 0 then pos 0 else negsuc (n - 1)

-- minus so many, where it is in `i32`
abbrev pub below_zero : ℕ → Option ℤ
below_zero n = if nat_le n (2 ^ 31) then Some (minus n) else None

-- the number, where it is in `i32`
abbrev pub value : List ℕ → Option ℤ
value text =
    if has_sign text
    then below_zero (amount (without_sign text))
    else (if nat_lt (amount text) (2 ^ 31) then Some (pos (amount text)) else None)
