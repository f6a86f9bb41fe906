-- The tokens that bytes spell.
use Rattle.std.specs.Prelude.{ℕ, ◌+◌, ◌-◌, ◌==◌, ◌||◌, Bool, true, false, if◌then◌else◌, List, [], ◌∷◌, drop, length, ◌≡◌, ◌<◌, ◌≤◌}
use Rattle.golog_base.specs.Names.{is_letter, is_digit}
use Rattle.golog_form.specs.declared.class.ByteClass.{ByteClass}
use Rattle.golog_form.specs.declared.class.ByteClass.TheVariants.{Separator, Semicolon, Open, Close, Atom, Bad}
use Rattle.golog_form.specs.declared.token.Token.{Token}
use Rattle.golog_form.specs.declared.token.Token.TheVariants as token

-- space, tab, line feed, carriage return
abbrev pub is_separator : ℕ → Bool
is_separator b = (b == 32) || (b == 9) || (b == 10) || (b == 13)

-- a letter, a digit, `_`, `+`, `-`, `=` or `<`
abbrev pub is_atom_byte : ℕ → Bool
is_atom_byte b =
    is_letter b || is_digit b || (b == 95) || (b == 43) || (b == 45) || (b == 61) || (b == 60)

-- what a byte outside comments is: `;`, `(` and `)` stand for themselves
abbrev pub class : ℕ → ByteClass
class b =
    if is_separator b then Separator
    else if b == 59 then Semicolon
    else if b == 40 then Open
    else if b == 41 then Close
    else if is_atom_byte b then Atom
    else Bad

abbrev pub is_atom : ByteClass → Bool
is_atom Atom = true
is_atom _ = false

-- how many atom bytes stand at the front
unfoldable pub run : List ℕ → ℕ
run [] = 0
run (b ∷ bs) = if is_atom (class b) then run bs + 1 else 0

abbrev pub opens_token : ByteClass → Bool
opens_token Separator = false
opens_token Semicolon = false
opens_token _ = true

abbrev pub starts_token : List ℕ → Bool
starts_token [] = false
starts_token (b ∷ bs) = opens_token (class b)

abbrev pub starts_atom : List ℕ → Bool
starts_atom [] = false
starts_atom (b ∷ bs) = is_atom (class b)

-- one more byte before the first atom
abbrev pub longer : ℕ → ℕ → List Token → List Token
longer b at (token.Atom text _ end ∷ ts) = token.Atom (b ∷ text) at end ∷ ts
longer b at ts = ts

-- the tokens of a byte and those after it, given the tokens after it outside and inside a comment
abbrev pub first : ByteClass → ℕ → ℕ → List ℕ → List Token → List Token → List Token
first Separator b at bs outside inside = outside
first Semicolon b at bs outside inside = inside
first Open b at bs outside inside = token.Open at ∷ outside
first Close b at bs outside inside = token.Close (at + 1) ∷ outside
first Atom b at bs outside inside =
    if starts_atom bs then longer b at outside else token.Atom (b ∷ []) at (at + 1) ∷ outside
first Bad b at bs outside inside = token.Bad at ∷ outside

-- The tokens of bytes whose first stands at a place, in a comment or not.
-- A comment goes up to the end of the line, and an atom is a longest run.
unfoldable pub tokens_of : Bool → ℕ → List ℕ → List Token
tokens_of in_comment at [] = []
tokens_of true at (b ∷ bs) = if b == 10 then tokens_of false (at + 1) bs else tokens_of true (at + 1) bs
tokens_of false at (b ∷ bs) =
    first (class b) b at bs (tokens_of false (at + 1) bs) (tokens_of true (at + 1) bs)

-- those from a place on
abbrev pub tokens_from : Bool → ℕ → List ℕ → List Token
tokens_from in_comment at bytes = tokens_of in_comment at (drop at bytes)

-- those of a whole text
abbrev pub tokens : List ℕ → List Token
tokens bytes = tokens_of false 0 bytes

-- the place of a token's first byte, and the place after its last
abbrev pub place : Token → ℕ
place (token.Open at) = at
place (token.Close end) = end - 1
place (token.Atom text at end) = at
place (token.Bad at) = at

abbrev pub end_of : Token → ℕ
end_of (token.Open at) = at + 1
end_of (token.Close end) = end
end_of (token.Atom text at end) = end
end_of (token.Bad at) = at + 1

-- a token is the next from a place on
abbrev pub IsNext : ℕ → List ℕ → Token → Type 0
IsNext at bytes t =
    (tokens_from false at bytes ≡ t ∷ tokens_from false (end_of t) bytes)
    × (at ≤ place t) × (place t < end_of t) × (end_of t ≤ length bytes)
