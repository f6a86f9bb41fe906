-- Lists that begin with the name of a fluent or an action, and their arguments.
use Rattle.std.specs.Prelude.{ℕ, ◌==◌, ◌||◌, not, if◌then◌else◌, Option, Some, None, List, [], ◌∷◌, drop, length}
use Rattle.std.specs.List.{list_any}
use Rattle.golog_base.specs.Names.{is_name}
use Rattle.golog_form.specs.declared.form.Form.{Form}
use Rattle.golog_form.specs.Shape.{place_of}
use Rattle.golog_tree.specs.declared.draft.DraftTheory.{DraftTheory}
use Rattle.golog_tree.specs.declared.draft_cond.DraftArg.{DraftArg}
use Rattle.golog_theory.specs.declared.names.Actions.{Actions}
use Rattle.golog_theory.specs.declared.heads.Called.{Called}
use Rattle.golog_theory.specs.declared.heads.Callee.{Callee}
use Rattle.golog_theory.specs.declared.heads.Schema.{Schema}
use Rattle.golog_theory.specs.Codes.{UNKNOWN_FORM, DUPLICATE, UNKNOWN_NAME, ARITY}
use Rattle.golog_theory.specs.Reading.{Reading, gives, refused, row, ◌>>=◌, each}
use Rattle.golog_theory.specs.Names.{same, is_constant, fluent_no, action_no, fluent_arity, action_arity, allows}
use Rattle.golog_theory.specs.Parts.{word, parts, short_name, arg_of}

abbrev pub first_word : List Form → List ℕ
first_word [] = []
first_word (first ∷ others) = word first

abbrev pub first_place : ℕ → List Form → ℕ
first_place at [] = at
first_place at (first ∷ others) = place_of first

-- the word that a list begins with, and no text where there is none
abbrev pub head_word : Form → List ℕ
head_word form = first_word (parts form)

-- the place where the first part of a list begins
abbrev pub head_place : Form → ℕ
head_place form = first_place (place_of form) (parts form)

-- the parts behind the first
abbrev pub arguments : Form → List Form
arguments form = drop 1 (parts form)

-- the words and numbers in a list of arguments
unfoldable pub args_of : List Form → Reading (List DraftArg)
args_of forms = each (λ _. arg_of) [] forms

-- what is found, and how many arguments it has
abbrev pub with_arity : (ℕ → ℕ) → Option ℕ → Option Callee
with_arity arity None = None
with_arity arity (Some item) = Some (record { item = item; arity = arity item })

-- the fluent with the name
unfoldable pub fluent_named : DraftTheory → List ℕ → Option Callee
fluent_named theory name = with_arity (fluent_arity theory) (fluent_no theory name)

-- the action with the name
unfoldable pub action_named : DraftTheory → List ℕ → Option Callee
action_named theory name = with_arity (action_arity theory) (action_no theory name)

-- what is named is declared, with so many arguments
unfoldable pub declared_with : ℕ → ℕ → ℕ → Option Callee → Reading ℕ
declared_with at name count None = refused UNKNOWN_NAME name
declared_with at name count (Some callee) = row (not (count == callee.arity)) ARITY at (gives callee.item)

-- The fluent or action that a list begins with, where it is declared, with as many arguments as the list has.
unfoldable pub called : Form → Option Callee → Reading ℕ
called form callee =
    if is_name (head_word form)
    then declared_with (place_of form) (head_place form) (length (arguments form)) callee
    else refused UNKNOWN_FORM (place_of form)

-- `(FLUENT ARGS)`
unfoldable pub fluent_called : DraftTheory → Form → Reading Called
fluent_called theory form =
    called form (fluent_named theory (head_word form)) >>= λ fluent.
    args_of (arguments form) >>= λ args.
    gives (record { item = fluent; args = args })

-- `(ACTION ARGS)`
unfoldable pub action_called : DraftTheory → Form → Reading Called
action_called theory form =
    called form (action_named theory (head_word form)) >>= λ action.
    args_of (arguments form) >>= λ args.
    gives (record { item = action; args = args })

-- a word for an argument of an action, behind those before it: no constant, and none of the others
unfoldable pub var_of : DraftTheory → List (List ℕ) → Form → Reading (List ℕ)
var_of theory before form =
    row (not (is_name (word form)) || is_constant theory (word form)) UNKNOWN_FORM (place_of form)
    (row (list_any (same (word form)) before) DUPLICATE (place_of form)
    (short_name form))

-- the action, where it may stand there
abbrev pub allowed : DraftTheory → Actions → Option ℕ → Option ℕ
allowed theory actions None = None
allowed theory actions (Some action) = if allows theory actions action then Some action else None

-- the action with the name, where it may stand there
unfoldable pub allowed_action : DraftTheory → Actions → List ℕ → Option Callee
allowed_action theory actions name = with_arity (action_arity theory) (allowed theory actions (action_no theory name))

-- `(ACTION VARS)`, the action being one that is allowed
unfoldable pub schema_of : DraftTheory → Actions → Form → Reading Schema
schema_of theory actions form =
    called form (allowed_action theory actions (head_word form)) >>= λ action.
    each (var_of theory) [] (arguments form) >>= λ vars.
    gives (record { action = action; vars = vars })
