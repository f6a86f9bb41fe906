-- Variables in scope, and what a word means there.
use Rattle.std.specs.Prelude.{ℕ, min, if◌then◌else◌, Option, Some, None, List, [], ◌∷◌, length}
use Rattle.golog_tree.specs.declared.cond.Arg.TheVariants.{Var}
use Rattle.golog_check.specs.declared.scope.Meant.{Meant}
use Rattle.golog_check.specs.declared.scope.Variable.{Variable}
use Rattle.golog_check.specs.DeclaredItems.{Declared}
use Rattle.golog_check.specs.Sorts.{same, constant}

-- the variables in scope, the innermost first
abbrev pub Scope : Type 0
Scope = List Variable

-- The number of a variable is how many are in scope where it is bound. A draft has no more than 32.
abbrev pub variable_no : Scope → ℕ
variable_no outer = min (length outer) 255

-- one more variable in scope
abbrev pub within : List ℕ → ℕ → Scope → Scope
within word sort outer = record { word = word; sort = sort } ∷ outer

-- the innermost variable of the name
abbrev pub innermost : Scope → List ℕ → Option Meant
innermost [] word = None
innermost (variable ∷ outer) word =
    if same word variable.word
    then Some (record { arg = Var (variable_no outer); sort = variable.sort })
    else innermost outer word

abbrev pub or_else : Option Meant → Option Meant → Option Meant
or_else (Some meant) other = Some meant
or_else None other = other

-- A word is the innermost variable of its name, else the constant that is declared before its place.
abbrev pub meaning : Declared → Scope → List ℕ → ℕ → Option Meant
meaning names scope word at = or_else (innermost scope word) (constant names word at)

-- these words in scope, one within the other, each with its sort
abbrev pub scope_on : Scope → List ℕ → List (List ℕ) → Scope
scope_on outer sorts [] = outer
scope_on outer [] (word ∷ words) = outer
scope_on outer (sort ∷ sorts) (word ∷ words) = scope_on (within word sort outer) sorts words

-- the words of a head, of which the first is the outermost
abbrev pub scope_of_vars : List (List ℕ) → List ℕ → Scope
scope_of_vars words sorts = scope_on [] sorts words
