-- What the parser makes of the tokens, one after another. What a form spells, and where each code fits, stand
-- in Spelling and Faults, apart from this.
use Rattle.std.specs.Prelude.{◌≡◌, ℕ, ◌-◌, nat_le, if◌then◌else◌, List, [], ◌∷◌, ◌++◌, length, Option, Some, None, Result, Ok, Err}
use Rattle.golog_form.specs.declared.form.Form.{Form}
use Rattle.golog_form.specs.declared.form.Form.TheVariants as form
use Rattle.golog_form.specs.declared.token.Token.{Token}
use Rattle.golog_form.specs.declared.token.Token.TheVariants.{Open, Close, Atom, Bad}
use Rattle.golog_form.specs.declared.fault.FormFault.{FormFault}
use Rattle.golog_form.specs.declared.fault.FormFault.TheVariants.{Refused, Memory}
use Rattle.golog_form.specs.declared.parser.Level.{Level}
use Rattle.golog_form.specs.declared.parser.Parser.{Parser}
use Rattle.golog_form.specs.Gives.{Fault}

-- what a call that changes what it is called on makes of it is what is right, unless memory ran out
abbrev pub Steps : {A : Type 0} → Result Unit FormFault → A → Result A Fault → Type 0
Steps (Ok u) new right = right ≡ Ok new
Steps (Err (Refused why at)) new right = right ≡ Err (why, at)
Steps (Err Memory) new right = Unit {0}

abbrev pub parser : List Level → Option Form → Parser
parser levels found = record { levels = levels; found = found }

-- nothing is read yet
abbrev pub start : Parser
start = parser [] None

-- a form is the next item of the innermost list, or the form of the text
abbrev pub put_form : Form → ℕ → List Level → Option Form → Result Parser Fault
put_form f at [] None = Ok (parser [] (Some f))
put_form f at [] (Some other) = Err (2, at)
put_form f at (level ∷ levels) found =
    Ok (parser (record { at = level.at; items = level.items ++ f ∷ [] } ∷ levels) found)

-- one more list is open
abbrev pub deeper : ℕ → List Level → Option Form → Result Parser Fault
deeper at levels found =
    if nat_le 128 (length levels) then Err (4, at)
    else Ok (parser (record { at = at; items = [] } ∷ levels) found)

abbrev pub open_level : ℕ → List Level → Option Form → Result Parser Fault
open_level at [] (Some other) = Err (2, at)
open_level at [] None = deeper at [] None
open_level at (level ∷ levels) found = deeper at (level ∷ levels) found

abbrev pub close_level : ℕ → List Level → Option Form → Result Parser Fault
close_level end [] found = Err (2, end - 1)
close_level end (level ∷ levels) found = put_form (form.Group level.items level.at end) level.at levels found

abbrev pub take_token : Token → List Level → Option Form → Result Parser Fault
take_token (Open at) levels found = open_level at levels found
take_token (Close end) levels found = close_level end levels found
take_token (Atom text at end) levels found = put_form (form.Atom text at end) at levels found
take_token (Bad at) levels found = Err (3, at)

-- what is read at the end of the text
abbrev pub finish : ℕ → List Level → Option Form → Result Form Fault
finish end (level ∷ levels) found = Err (1, end)
finish end [] None = Err (6, end)
finish end [] (Some f) = Ok f

infixl 10 ◌>>=◌
abbrev pub ◌>>=◌ : {A B : Type 0} → Result A Fault → (A → Result B Fault) → Result B Fault
(Ok x) >>= f = f x
(Err e) >>= f = Err e

-- the tokens one after another, up to the first refusal
unfoldable pub parse : ℕ → List Token → Parser → Result Form Fault
parse end [] p = finish end p.levels p.found
parse end (t ∷ ts) p = take_token t p.levels p.found >>= parse end ts
