-- The terms that forms spell, within so many variables.
use Rattle.std.specs.Prelude.{ℕ, ℤ, neg_ℤ, ◌||◌, not, if◌then◌else◌, List, [], ◌∷◌, map, codes}
use Rattle.golog_form.specs.declared.form.Form.{Form}
use Rattle.golog_form.specs.Shape.{place_of}
use Rattle.golog_tree.specs.declared.draft.DraftTheory.{DraftTheory}
use Rattle.golog_tree.specs.declared.draft_cond.DraftTerm.{DraftTerm}
use Rattle.golog_tree.specs.declared.draft_cond.DraftTerm.TheVariants.{Arg, Fluent, Shift}
use Rattle.golog_theory.specs.Codes.{UNKNOWN_FORM, NUMBER_RANGE}
use Rattle.golog_theory.specs.Reading.{Reading, gives, refused, row, ◌>>=◌, found}
use Rattle.golog_theory.specs.Names.{same}
use Rattle.golog_base.specs.Numbers.{is_number, has_sign, value}
use Rattle.golog_theory.specs.Parts.{word, arg_of}
use Rattle.golog_theory.specs.Heads.{fluent_called}
use Rattle.golog_theory.specs.Recursion.{Part, part_of}

-- the number of a `+` or `-`, which is at least 0
unfoldable pub step_of : Form → Reading ℤ
step_of form =
    row (not (is_number (word form)) || has_sign (word form)) UNKNOWN_FORM (place_of form)
    (found NUMBER_RANGE (place_of form) (value (word form)))

-- `(+ TERM NUMBER)`
unfoldable pub plus_of : ℕ → List (Part (Reading DraftTerm)) → Reading DraftTerm
plus_of at (one ∷ step ∷ []) = one.spelled >>= λ term. step_of step.form >>= λ by. gives (Shift term by at)
plus_of at _ = refused UNKNOWN_FORM at

-- `(- TERM NUMBER)`
unfoldable pub minus_of : ℕ → List (Part (Reading DraftTerm)) → Reading DraftTerm
minus_of at (one ∷ step ∷ []) =
    one.spelled >>= λ term. step_of step.form >>= λ by. gives (Shift term (neg_ℤ by) at)
minus_of at _ = refused UNKNOWN_FORM at

-- `(FLUENT ARGS)`
unfoldable pub fluent_term : DraftTheory → Form → Reading DraftTerm
fluent_term theory form =
    fluent_called theory form >>= λ called. gives (Fluent called.item called.args (place_of form))

-- a word or a number as a term
unfoldable pub atom_term : Form → Reading DraftTerm
atom_term form = arg_of form >>= λ arg. gives (Arg arg)

-- A list spells a term by its first word.
unfoldable pub term_list : DraftTheory → Form → List ℕ → List (Part (Reading DraftTerm)) → Reading DraftTerm
term_list theory form keyword parts =
    if same keyword (codes "+") then plus_of (place_of form) parts
    else if same keyword (codes "-") then minus_of (place_of form) parts
    else fluent_term theory form

-- A term is a word or a number, `(+ TERM NUMBER)`, `(- TERM NUMBER)` or `(FLUENT ARGS)`.
abbrev pub term_by : DraftTheory → Form → List (Part (Reading DraftTerm)) → Reading DraftTerm
term_by theory form [] = atom_term form
term_by theory form (head ∷ parts) = term_list theory form (word head.form) parts

-- the term that a form spells
unfoldable pub term_of : DraftTheory → Form → Reading DraftTerm
term_of theory form = (part_of (term_by theory) form).spelled

-- a form and the term that it spells
abbrev pub term_part : DraftTheory → Form → Part (Reading DraftTerm)
term_part theory form = record { form = form; spelled = term_of theory form }

abbrev pub term_parts : DraftTheory → List Form → List (Part (Reading DraftTerm))
term_parts theory forms = map (term_part theory) forms
