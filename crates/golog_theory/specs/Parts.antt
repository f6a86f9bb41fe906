-- The parts of a form, and what a form spells that stands for a name, a number, a sort or an argument.
use Rattle.std.specs.Prelude.{ℕ, ℤ, nat_lt, not, if◌then◌else◌, List, [], length, unwrap_or}
use Rattle.golog_base.specs.Names.{is_name}
use Rattle.golog_form.specs.declared.form.Form.{Form}
use Rattle.golog_form.specs.Shape.{place_of, atom_of, items_of}
use Rattle.golog_tree.specs.declared.draft.DraftTheory.{DraftTheory}
use Rattle.golog_tree.specs.declared.draft_cond.DraftArg.{DraftArg}
use Rattle.golog_tree.specs.declared.draft_cond.DraftArg.TheVariants.{Word, Number}
use Rattle.golog_theory.specs.Codes.{UNKNOWN_FORM, DUPLICATE, UNKNOWN_SORT, COUNT, NUMBER_RANGE}
use Rattle.golog_theory.specs.Limits.{NAME_BYTES}
use Rattle.golog_theory.specs.Reading.{Reading, gives, row, ◌>>=◌, found}
use Rattle.golog_theory.specs.Names.{is_taken, sort_no}
use Rattle.golog_base.specs.Numbers.{is_number, value}

-- the text of an atom, and no text for a list
abbrev pub word : Form → List ℕ
word form = unwrap_or (atom_of form) []

-- the parts of a list, and none for an atom
abbrev pub parts : Form → List Form
parts form = unwrap_or (items_of form) []

-- a name that is short enough
unfoldable pub short_name : Form → Reading (List ℕ)
short_name form = row (nat_lt NAME_BYTES (length (word form))) COUNT (place_of form) (gives (word form))

-- a name that an item declares
unfoldable pub new_name : DraftTheory → Form → Reading (List ℕ)
new_name theory form =
    row (not (is_name (word form))) UNKNOWN_FORM (place_of form)
    (row (is_taken theory (word form)) DUPLICATE (place_of form)
    (short_name form))

-- the number of a sort
unfoldable pub sort_of : DraftTheory → Form → Reading ℕ
sort_of theory form =
    row (not (is_name (word form))) UNKNOWN_FORM (place_of form)
    (found UNKNOWN_SORT (place_of form) (sort_no theory (word form)))

-- a number
unfoldable pub number_of : Form → Reading ℤ
number_of form =
    row (not (is_number (word form))) UNKNOWN_FORM (place_of form)
    (found NUMBER_RANGE (place_of form) (value (word form)))

-- a word or a number in a term place
unfoldable pub arg_of : Form → Reading DraftArg
arg_of form =
    if is_name (word form)
    then short_name form >>= (λ word. gives (Word word (place_of form)))
    else number_of form >>= (λ number. gives (Number number (place_of form)))
