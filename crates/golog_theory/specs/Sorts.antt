-- The items that declare sorts.
use Rattle.std.specs.Prelude.{ℕ, ℤ, pos, ◌+ℤ◌, int_lt, nat_lt, nat_le, ◌||◌, not, Bool, false, if◌then◌else◌, List, [], ◌∷◌, length, Option, Some, None}
use Rattle.std.specs.List.{list_any}
use Rattle.golog_base.specs.Names.{is_name}
use Rattle.golog_form.specs.declared.form.Form.{Form}
use Rattle.golog_form.specs.Shape.{place_of}
use Rattle.golog_tree.specs.declared.draft.DraftTheory.{DraftTheory}
use Rattle.golog_tree.specs.declared.draft.DraftSort.{DraftSort}
use Rattle.golog_tree.specs.declared.draft.DraftSort.TheVariants.{Range, Listed}
use Rattle.golog_theory.specs.Codes.{UNKNOWN_FORM, DUPLICATE, COUNT, NUMBER_RANGE}
use Rattle.golog_theory.specs.Limits.{SORTS, CONSTANTS}
use Rattle.golog_theory.specs.Reading.{Reading, gives, refused, row, ◌>>=◌, each}
use Rattle.golog_theory.specs.Names.{same, is_taken}
use Rattle.golog_base.specs.Numbers.{is_number, value}
use Rattle.golog_theory.specs.Parts.{word, short_name, new_name, number_of}

-- the number that the form spells, where it spells one
abbrev pub bound : Form → Option ℤ
bound form = if is_number (word form) then value (word form) else None

-- the first is above the second, both being known
abbrev pub is_above : Option ℤ → Option ℤ → Bool
is_above (Some low) (Some high) = int_lt high low
is_above (Some low) None = false
is_above None high = false

-- there are more numbers from the first to the second than a sort has constants, both being known
abbrev pub is_too_wide : Option ℤ → Option ℤ → Bool
is_too_wide (Some low) (Some high) = not (int_lt high (low +ℤ pos CONSTANTS))
is_too_wide (Some low) None = false
is_too_wide None high = false

-- `(sort NAME LOW HIGH)`
unfoldable pub range_of : DraftTheory → ℕ → Form → Form → Form → Reading DraftSort
range_of theory at name low high =
    row (nat_le SORTS (length theory.sorts) || is_too_wide (bound low) (bound high)) COUNT at
    (row (is_above (bound low) (bound high)) NUMBER_RANGE at
    (new_name theory name >>= λ name.
    number_of low >>= λ low.
    number_of high >>= λ high.
    gives (Range name low high at)))

-- the name is taken, or it is that of the sort itself or of an earlier constant in its list
unfoldable pub is_taken_beside : DraftTheory → List ℕ → List (List ℕ) → List ℕ → Bool
is_taken_beside theory own before name = is_taken theory name || same name own || list_any (same name) before

-- a constant of a listed sort, behind the sort's own name and the constants before it
unfoldable pub constant_of : DraftTheory → List ℕ → List (List ℕ) → Form → Reading (List ℕ)
constant_of theory own before form =
    row (not (is_name (word form))) UNKNOWN_FORM (place_of form)
    (row (is_taken_beside theory own before (word form)) DUPLICATE (place_of form)
    (short_name form))

-- `(sort NAME C1 C2)`
unfoldable pub listed_of : DraftTheory → ℕ → Form → List Form → Reading DraftSort
listed_of theory at name constants =
    row (nat_le SORTS (length theory.sorts) || nat_lt CONSTANTS (length constants)) COUNT at
    (new_name theory name >>= λ own.
    each (constant_of theory own) [] constants >>= λ names.
    gives (Listed own names at))

abbrev pub range_by : DraftTheory → ℕ → Form → Form → List Form → Reading DraftSort
range_by theory at name low (high ∷ []) = range_of theory at name low high
range_by theory at name low _ = refused UNKNOWN_FORM at

abbrev pub sort_by : DraftTheory → ℕ → Form → List Form → Reading DraftSort
sort_by theory at name [] = refused UNKNOWN_FORM at
sort_by theory at name (value ∷ values) =
    if is_number (word value)
    then range_by theory at name value values
    else listed_of theory at name (value ∷ values)

-- A `sort` item is a range where a number stands behind the name, and lists its constants else, at least one.
unfoldable pub sort_item : DraftTheory → ℕ → List Form → Reading DraftSort
sort_item theory at [] = refused UNKNOWN_FORM at
sort_item theory at (name ∷ values) = sort_by theory at name values
