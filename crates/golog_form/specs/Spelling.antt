-- The grammar: which tokens spell a form, and so which bytes.
use Rattle.std.specs.Prelude.{◌≡◌, ◌≤◌, ℕ, ◌+◌, max, List, [], ◌∷◌, ◌++◌}
use Rattle.std.specs.List.{flat_map}
use Rattle.golog_form.specs.declared.form.Form.{Form}
use Rattle.golog_form.specs.declared.form.Form.TheOpen.{Form-F, Atom, Group}
use Rattle.golog_form.specs.declared.form.Form.TheFolds.{fold-Form}
use Rattle.golog_form.specs.declared.token.Token.{Token}
use Rattle.golog_form.specs.declared.token.Token.TheVariants as token
use Rattle.golog_form.specs.Tokens.{tokens}

-- an atom is its token, and a list is what stands between its `(` and its `)`
abbrev pub spelling_step : Form-F (List Token) → List Token
spelling_step (Atom text at end) = token.Atom text at end ∷ []
spelling_step (Group items at end) =
    token.Open at ∷ flat_map (λ tokens. tokens) items ++ token.Close end ∷ []

-- the tokens of a form
abbrev pub spelling : Form → List Token
spelling = fold-Form (List Token) spelling_step

-- the greatest of these numbers, or 0
abbrev pub greatest : List ℕ → ℕ
greatest [] = 0
greatest (n ∷ ns) = max n (greatest ns)

abbrev pub nest_step : Form-F ℕ → ℕ
nest_step (Atom text at end) = 0
nest_step (Group items at end) = greatest items + 1

-- how deep lists stand in a form
abbrev pub nest : Form → ℕ
nest = fold-Form ℕ nest_step

-- The bytes, all of them, spell the form, with separators and comments around its tokens, and it nests within
-- the limit.
pub record Spells (bytes : List ℕ) (form : Form) : Type 0 where
  pub same : tokens bytes ≡ spelling form
  pub shallow : nest form ≤ 128
