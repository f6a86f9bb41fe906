-- The names of an agent file.
use Rattle.std.specs.Prelude.{ℕ, ◌≡◌, ◌≤◌, ◌-◌, ◌==◌, ◌||◌, ◌&&◌, nat_le, Bool, false, IsTrue, List, [], ◌∷◌, length, take, drop, replicate}
use Rattle.std.specs.List.{list_all}

abbrev pub is_between : ℕ → ℕ → ℕ → Bool
is_between low high byte = nat_le low byte && nat_le byte high

-- `A` to `Z`, `a` to `z`
abbrev pub is_letter : ℕ → Bool
is_letter byte = is_between 65 90 byte || is_between 97 122 byte

-- `0` to `9`
abbrev pub is_digit : ℕ → Bool
is_digit byte = is_between 48 57 byte

-- a letter or `_`
abbrev pub begins_name : ℕ → Bool
begins_name byte = is_letter byte || (byte == 95)

-- a letter, a digit, `_` or `-`
abbrev pub continues_name : ℕ → Bool
continues_name byte = begins_name byte || is_digit byte || (byte == 45)

-- A name is a letter or `_`, and then letters, digits, `_` and `-`, any number of them.
abbrev pub is_name : List ℕ → Bool
is_name [] = false
is_name (byte ∷ bytes) = begins_name byte && list_all continues_name bytes

-- a name that is short enough to be declared
pub record IsWord (bytes : List ℕ) : Type 0 where
  pub named : IsTrue (is_name bytes)
  pub short : length bytes ≤ 31

-- such a name at the front of 31 bytes, and zeros behind it
pub record HoldsWord (bytes : List ℕ) (count : ℕ) : Type 0 where
  pub named : IsTrue (is_name (take count bytes))
  pub full : length bytes ≡ 31
  pub fits : count ≤ 31
  pub padded : drop count bytes ≡ replicate (31 - count) 0
