-- The conditions that forms spell, within so many variables.
use Rattle.std.specs.Prelude.{ℕ, ◌+◌, nat_le, not, true, false, if◌then◌else◌, List, [], ◌∷◌, map, Option, Some, None, codes}
use Rattle.golog_base.specs.Names.{is_name}
use Rattle.golog_form.specs.declared.form.Form.{Form}
use Rattle.golog_form.specs.Shape.{place_of}
use Rattle.golog_tree.specs.declared.draft.DraftTheory.{DraftTheory}
use Rattle.golog_tree.specs.declared.draft_cond.DraftCond.{DraftCond}
use Rattle.golog_tree.specs.declared.draft_cond.DraftCond.TheVariants.{Truth, Is, Equal, Less, AtMost, Not, And, Or, ForSome, ForAll}
use Rattle.golog_theory.specs.declared.conditions.Sides.{Sides}
use Rattle.golog_theory.specs.declared.conditions.Binder.{Binder}
use Rattle.golog_theory.specs.declared.conditions.Bound.{Bound}
use Rattle.golog_theory.specs.Codes.{UNKNOWN_FORM, COUNT}
use Rattle.golog_theory.specs.Limits.{VARIABLES}
use Rattle.golog_theory.specs.Reading.{Reading, gives, refused, row, ◌>>=◌, each}
use Rattle.golog_theory.specs.Names.{same}
use Rattle.golog_theory.specs.Keywords.{cond_keyword}
use Rattle.golog_theory.specs.declared.keyword.CondKeyword.{CondKeyword}
use Rattle.golog_theory.specs.declared.keyword.CondKeyword.TheVariants as keyword
use Rattle.golog_theory.specs.Parts.{word, parts, short_name, sort_of}
use Rattle.golog_theory.specs.Heads.{fluent_called}
use Rattle.golog_theory.specs.Terms.{term_of}
use Rattle.golog_theory.specs.Recursion.{Part, part_of}

-- what a form spells as a condition, within any number of variables
abbrev pub InScope : Type 0
InScope = ℕ → Reading DraftCond

-- `true` or `false`
unfoldable pub truth_of : Form → Reading DraftCond
truth_of form =
    if same (word form) (codes "true") then gives (Truth true (place_of form))
    else if same (word form) (codes "false") then gives (Truth false (place_of form))
    else refused UNKNOWN_FORM (place_of form)

-- `(FLUENT ARGS)`
unfoldable pub fluent_cond : DraftTheory → Form → Reading DraftCond
fluent_cond theory form =
    fluent_called theory form >>= λ called. gives (Is called.item called.args (place_of form))

-- the two sides of a comparison
unfoldable pub sides_of : DraftTheory → ℕ → List (Part InScope) → Reading Sides
sides_of theory at (one ∷ other ∷ []) =
    term_of theory one.form >>= λ one.
    term_of theory other.form >>= λ other.
    gives (record { one = one; other = other })
sides_of theory at _ = refused UNKNOWN_FORM at

-- `(= TERM TERM)`, `(< TERM TERM)`, `(<= TERM TERM)`
unfoldable pub equal_of : DraftTheory → ℕ → List (Part InScope) → Reading DraftCond
equal_of theory at parts = sides_of theory at parts >>= λ sides. gives (Equal sides.one sides.other at)

unfoldable pub less_of : DraftTheory → ℕ → List (Part InScope) → Reading DraftCond
less_of theory at parts = sides_of theory at parts >>= λ sides. gives (Less sides.one sides.other at)

unfoldable pub at_most_of : DraftTheory → ℕ → List (Part InScope) → Reading DraftCond
at_most_of theory at parts = sides_of theory at parts >>= λ sides. gives (AtMost sides.one sides.other at)

-- `(not COND)`
unfoldable pub not_of : ℕ → ℕ → List (Part InScope) → Reading DraftCond
not_of scope at (part ∷ []) = part.spelled scope >>= λ cond. gives (Not cond at)
not_of scope at _ = refused UNKNOWN_FORM at

-- conditions, one after another
unfoldable pub conds_of : ℕ → List (Part InScope) → Reading (List DraftCond)
conds_of scope parts = each (λ _ part. part.spelled scope) [] parts

-- `(and CONDS)`, `(or CONDS)`
unfoldable pub and_of : ℕ → ℕ → List (Part InScope) → Reading DraftCond
and_of scope at parts = conds_of scope parts >>= λ conds. gives (And conds at)

unfoldable pub or_of : ℕ → ℕ → List (Part InScope) → Reading DraftCond
or_of scope at parts = conds_of scope parts >>= λ conds. gives (Or conds at)

abbrev pub binder_by : DraftTheory → ℕ → List Form → Reading Binder
binder_by theory at (var ∷ sort ∷ []) =
    row (not (is_name (word var))) UNKNOWN_FORM (place_of var)
    (short_name var >>= λ var. sort_of theory sort >>= λ sort. gives (record { var = var; sort = sort }))
binder_by theory at _ = refused UNKNOWN_FORM at

-- `(VAR SORT)`
unfoldable pub binder_of : DraftTheory → Form → Reading Binder
binder_of theory form = binder_by theory (place_of form) (parts form)

-- `(VAR SORT)` and a COND in which that variable stands beside the others, where it is not one too many
unfoldable pub bound_of : DraftTheory → ℕ → ℕ → List (Part InScope) → Reading Bound
bound_of theory scope at (binder ∷ body ∷ []) =
    row (nat_le VARIABLES scope) COUNT at
    (binder_of theory binder.form >>= λ binder.
    body.spelled (scope + 1) >>= λ body.
    gives (record { binder = binder; body = body }))
bound_of theory scope at _ = refused UNKNOWN_FORM at

-- `(some (VAR SORT) COND)`, `(all (VAR SORT) COND)`
unfoldable pub some_of : DraftTheory → ℕ → ℕ → List (Part InScope) → Reading DraftCond
some_of theory scope at parts =
    bound_of theory scope at parts >>= λ bound.
    gives (ForSome bound.binder.var bound.binder.sort bound.body at)

unfoldable pub all_of : DraftTheory → ℕ → ℕ → List (Part InScope) → Reading DraftCond
all_of theory scope at parts =
    bound_of theory scope at parts >>= λ bound.
    gives (ForAll bound.binder.var bound.binder.sort bound.body at)

-- A list spells a condition by its keyword; without one it is a fluent.
unfoldable pub keyword_cond : DraftTheory → ℕ → ℕ → CondKeyword → List (Part InScope) → Reading DraftCond
keyword_cond theory at scope keyword.Equal parts = equal_of theory at parts
keyword_cond theory at scope keyword.Less parts = less_of theory at parts
keyword_cond theory at scope keyword.AtMost parts = at_most_of theory at parts
keyword_cond theory at scope keyword.Not parts = not_of scope at parts
keyword_cond theory at scope keyword.And parts = and_of scope at parts
keyword_cond theory at scope keyword.Or parts = or_of scope at parts
keyword_cond theory at scope keyword.ForSome parts = some_of theory scope at parts
keyword_cond theory at scope keyword.ForAll parts = all_of theory scope at parts

abbrev pub cond_list : DraftTheory → Form → ℕ → Option CondKeyword → List (Part InScope) → Reading DraftCond
cond_list theory form scope None parts = fluent_cond theory form
cond_list theory form scope (Some keyword) parts = keyword_cond theory (place_of form) scope keyword parts

abbrev pub cond_by : DraftTheory → Form → List (Part InScope) → InScope
cond_by theory form [] scope = truth_of form
cond_by theory form (head ∷ parts) scope = cond_list theory form scope (cond_keyword (word head.form)) parts

-- the condition that a form spells within so many variables
unfoldable pub cond_of : DraftTheory → Form → ℕ → Reading DraftCond
cond_of theory form scope = (part_of (cond_by theory) form).spelled scope

-- a form and the condition that it spells
abbrev pub cond_part : DraftTheory → Form → Part InScope
cond_part theory form = record { form = form; spelled = cond_of theory form }

abbrev pub cond_parts : DraftTheory → List Form → List (Part InScope)
cond_parts theory forms = map (cond_part theory) forms
