-- Readings of conditions go down a form.
use Rattle.std.proofs.Common.{◌≡◌, ℕ, ◌+◌, ◌<◌, List, [], ◌∷◌, ◌++◌, length, get_or, map, drop, ap, ◌∙◌}
use Rattle.golog_form.specs.declared.form.Form.{Form}
use Rattle.golog_tree.specs.declared.draft.DraftTheory.{DraftTheory}
use Rattle.golog_tree.specs.declared.draft_cond.DraftCond.{DraftCond}
use Rattle.golog_theory.specs.Reading.{◌>>=◌, each}
use Rattle.golog_theory.specs.Parts.{parts}
use Rattle.golog_theory.specs.Recursion.{Part}
use Rattle.golog_theory.specs.Conditions.{InScope, truth_of, cond_by, cond_of, cond_part}
use Rattle.golog_rows.proofs.Each.{drop-item}
use Rattle.golog_theory.proofs.Forms.{by_parts}
use Rattle.golog_theory.proofs.Descent.{rest_deeper, deepest_one, deepest_two, deepest_at}

-- the condition that a form spells, by its parts
pub cond_of-parts : (theory : DraftTheory) (f : Form) (scope : ℕ) → cond_of theory f scope ≡ cond_by theory f (map (cond_part theory) (parts f)) scope
unfolding cond_of
cond_of-parts theory f scope = ap (λ (spelled : InScope). spelled scope) (by_parts (cond_by theory) f)

pub cond_of-none : (theory : DraftTheory) (f : Form) (scope : ℕ) → parts f ≡ [] → cond_of theory f scope ≡ truth_of f
cond_of-none theory f scope none = cond_of-parts theory f scope ∙ ap (λ fs. cond_by theory f (map (cond_part theory) fs) scope) none

-- conditions that are read one after another, one form further
pub conds-drop : (theory : DraftTheory) (scope : ℕ) (done : List DraftCond) (forms : List Form) (i : ℕ) (f : Form) → i < length forms → f ≡ get_or forms i f
    → each (λ (_ : List DraftCond) (part : Part InScope). part.spelled scope) done (map (cond_part theory) (drop i forms))
    ≡ (cond_of theory f scope >>= λ cond. each (λ (_ : List DraftCond) (part : Part InScope). part.spelled scope) (done ++ cond ∷ []) (map (cond_part theory) (drop (i + 1) forms)))
conds-drop theory scope done forms i f lt is =
    ap (λ fs. each (λ (_ : List DraftCond) (part : Part InScope). part.spelled scope) done (map (cond_part theory) fs)) (drop-item forms i f lt is)

pub ruleset laws = (rest_deeper, deepest_one, deepest_two, deepest_at, cond_of-parts, cond_of-none, conds-drop)
