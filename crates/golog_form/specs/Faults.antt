-- The codes of bytes that spell no form, each with its place.
use Rattle.std.specs.Prelude.{◌≡◌, ◌<◌, ◌≤◌, ◌+◌, ◌-◌, ◌⊎◌, ℕ, Bool, true, false, IsTrue, IsFalse, List, ◌∷◌, ◌++◌, length, fold, Result, Ok, Err}
use Rattle.std.specs.List.{list_any}
use Rattle.golog_base.specs.Files.{file_limit}
use Rattle.golog_rows.specs.Order.{IsLeast}
use Rattle.golog_form.specs.declared.token.Token.{Token}
use Rattle.golog_form.specs.declared.token.Token.TheVariants.{Open, Close, Atom, Bad}
use Rattle.golog_form.specs.declared.fault.FormFault.{FormFault}
use Rattle.golog_form.specs.declared.fault.FormFault.TheVariants.{Refused, Memory}
use Rattle.golog_form.specs.Tokens.{tokens, place}

abbrev pub opens : Token → Bool
opens (Open at) = true
opens _ = false

abbrev pub closes : Token → Bool
closes (Close end) = true
closes _ = false

abbrev pub is_bad : Token → Bool
is_bad (Bad at) = true
is_bad _ = false

-- a form begins with a `(` or is an atom
abbrev pub begins_form : Token → Bool
begins_form (Open at) = true
begins_form (Atom text at end) = true
begins_form _ = false

-- whether a form begins among these tokens
abbrev pub has_form : List Token → Bool
has_form = list_any begins_form

-- How many lists are open after a token, from those before it. A `)` that closes nothing leaves none open.
abbrev pub after_token : ℕ → Token → ℕ
after_token open_before (Open at) = open_before + 1
after_token open_before (Close end) = open_before - 1
after_token open_before _ = open_before

-- how many lists are open after these tokens
abbrev pub open_lists : List Token → ℕ
open_lists = fold after_token 0

-- Stray: a `)` closes nothing, or a form begins after the first
abbrev pub IsStray : List Token → Token → Type 0
IsStray before t =
    (open_lists before ≡ 0) × (IsTrue (closes t) ⊎ IsTrue (begins_form t) × IsTrue (has_form before))

-- BadByte: a byte outside comments has no class
abbrev pub IsBad : List Token → Token → Type 0
IsBad before t = IsTrue (is_bad t)

-- TooDeep: a `(` opens the 129th level
abbrev pub IsTooDeep : List Token → Token → Type 0
IsTooDeep before t = IsTrue (opens t) × (open_lists before ≡ 128)

-- a token at a place, of which this holds with the tokens before it
abbrev pub HasToken : List ℕ → (List Token → Token → Type 0) → ℕ → Type 0
HasToken bytes Holds at =
    (before after : List Token) × (t : Token)
    × (tokens bytes ≡ before ++ t ∷ after) × (at ≡ place t) × Holds before t

-- A code fits at a place of bytes that are no longer than the limit:
-- 1 Unclosed, where the input ends within a list, at its length; 2 Stray; 3 BadByte; 4 TooDeep;
-- 6 Empty, where there is no form, at the length.
pub data Fits (bytes : List ℕ) (at : ℕ) : ℕ → Type 0 where
  unclosed : 0 < open_lists (tokens bytes) → at ≡ length bytes → Fits bytes at 1
  stray : HasToken bytes IsStray at → Fits bytes at 2
  bad_byte : HasToken bytes IsBad at → Fits bytes at 3
  too_deep : HasToken bytes IsTooDeep at → Fits bytes at 4
  empty : IsFalse (has_form (tokens bytes)) → at ≡ length bytes → Fits bytes at 6

-- The answer of a reader. 5 TooLong, where the bytes are above the limit, is tested first and stands at the
-- limit. Any other code is the least that fits, and where a form is given none fits. Want of memory is free.
abbrev pub IsAnswer : {A : Type 0} → List ℕ → Result A FormFault → Type 0
IsAnswer bytes (Ok form) = (length bytes ≤ file_limit) × ((at why : ℕ) → Fits bytes at why → ⊥)
IsAnswer bytes (Err (Refused why at)) =
    ((file_limit < length bytes) × (why ≡ 5) × (at ≡ file_limit)) ⊎ ((length bytes ≤ file_limit) × IsLeast (λ code place. Fits bytes place code) why at)
IsAnswer bytes (Err Memory) = Unit {0}
