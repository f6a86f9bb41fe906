-- The items that declare fluents and give their start values.
use Rattle.std.specs.Prelude.{ℕ, ◌&&◌, nat_eq, nat_lt, not, Bool, false, if◌then◌else◌, List, [], ◌∷◌, length, Option, Some, None, is_none, Result, Ok, Err, codes}
use Rattle.std.specs.List.{list_any}
use Rattle.std.specs.Cmp.Lexicographic.{pointwise}
use Rattle.golog_base.specs.Names.{is_name}
use Rattle.golog_form.specs.declared.form.Form.{Form}
use Rattle.golog_form.specs.Shape.{place_of, items_of}
use Rattle.golog_tree.specs.declared.draft.DraftTheory.{DraftTheory}
use Rattle.golog_tree.specs.declared.draft.DraftFluent.{DraftFluent}
use Rattle.golog_tree.specs.declared.draft.DraftStart.{DraftStart}
use Rattle.golog_tree.specs.declared.draft.DraftStart.TheVariants.{Each, One}
use Rattle.golog_tree.specs.declared.draft_cond.DraftArg.{DraftArg}
use Rattle.golog_draft.specs.Drafts.{same_arg}
use Rattle.golog_theory.specs.declared.heads.Called.{Called}
use Rattle.golog_theory.specs.declared.fluents.FluentItem.{FluentItem}
use Rattle.golog_theory.specs.Codes.{UNKNOWN_FORM, DUPLICATE, UNKNOWN_NAME, COUNT}
use Rattle.golog_theory.specs.Limits.{ARGUMENTS}
use Rattle.golog_theory.specs.Reading.{Reading, gives, refused, row, ◌>>=◌, each}
use Rattle.golog_theory.specs.Names.{same, is_constant}
use Rattle.golog_theory.specs.Parts.{word, parts, new_name, sort_of, arg_of}
use Rattle.golog_theory.specs.Heads.{head_word, arguments, fluent_named, called}

-- `(SORTS)`: the sorts of arguments
unfoldable pub sorts_of : DraftTheory → Form → Reading (List ℕ)
sorts_of theory form =
    row (is_none (items_of form)) UNKNOWN_FORM (place_of form)
    (row (nat_lt ARGUMENTS (length (parts form))) COUNT (place_of form)
    (each (λ _. sort_of theory) [] (parts form)))

-- a constant
unfoldable pub constant_arg : DraftTheory → Form → Reading DraftArg
constant_arg theory form =
    if is_name (word form)
    then row (not (is_constant theory (word form))) UNKNOWN_NAME (place_of form) (arg_of form)
    else arg_of form

-- a constant, or nothing for `unknown`
unfoldable pub start_value : DraftTheory → Form → Reading (Option DraftArg)
start_value theory form =
    if same (word form) (codes "unknown")
    then gives None
    else constant_arg theory form >>= (λ arg. gives (Some arg))

-- `(fluent NAME (SORTS) SORT)`
unfoldable pub fluent_of : DraftTheory → ℕ → Form → Form → Form → Reading DraftFluent
fluent_of theory at name sorts sort =
    new_name theory name >>= λ name.
    sorts_of theory sorts >>= λ args.
    sort_of theory sort >>= λ sort.
    gives (record { name = name; args = args; sort = sort; at = at })

-- A `fluent` item may have the start value of all its ground fluents last. They start unknown where it has
-- none.
unfoldable pub fluent_item : DraftTheory → ℕ → List Form → Reading FluentItem
fluent_item theory at (name ∷ sorts ∷ sort ∷ []) =
    fluent_of theory at name sorts sort >>= λ fluent. gives (record { fluent = fluent; value = None })
fluent_item theory at (name ∷ sorts ∷ sort ∷ value ∷ []) =
    fluent_of theory at name sorts sort >>= λ fluent.
    start_value theory value >>= λ value.
    gives (record { fluent = fluent; value = value })
fluent_item theory at _ = refused UNKNOWN_FORM at

-- the start value is that of the fluent at these constants
abbrev pub starts : ℕ → List DraftArg → DraftStart → Bool
starts fluent args (Each own value at) = false
starts fluent args (One own constants value at) = nat_eq own fluent && pointwise same_arg constants args

-- the fluent has a start value at these constants already
unfoldable pub is_started : DraftTheory → ℕ → List DraftArg → Bool
is_started theory fluent args = list_any (starts fluent args) theory.starts

-- the constants in a list of arguments
unfoldable pub constants_of : DraftTheory → List Form → Reading (List DraftArg)
constants_of theory forms = each (λ _. constant_arg theory) [] forms

-- `(FLUENT CONSTANTS)`
unfoldable pub ground_of : DraftTheory → Form → Reading Called
ground_of theory form =
    called form (fluent_named theory (head_word form)) >>= λ fluent.
    constants_of theory (arguments form) >>= λ args.
    gives (record { item = fluent; args = args })

-- what is read is a ground fluent that has a start value already
abbrev pub is_started_again : DraftTheory → Result Called (ℕ × ℕ) → Bool
is_started_again theory (Ok called) = is_started theory called.item called.args
is_started_again theory (Err refusal) = false

-- `(start (FLUENT CONSTANTS) CONSTANT)`
unfoldable pub start_item : DraftTheory → ℕ → List Form → Reading DraftStart
start_item theory at (fluent ∷ value ∷ []) =
    row (is_started_again theory (ground_of theory fluent).outcome) DUPLICATE at
    (ground_of theory fluent >>= λ called.
    start_value theory value >>= λ value.
    gives (One called.item called.args value at))
start_item theory at _ = refused UNKNOWN_FORM at
