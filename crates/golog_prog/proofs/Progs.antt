-- Readings of programs go down a form.
use Rattle.std.proofs.Common.{◌≡◌, ℕ, ◌+◌, ◌<◌, ◌≤◌, List, [], ◌∷◌, ◌++◌, length, get_or, map, drop, ap, ◌∙◌, arith}
use Rattle.golog_form.specs.declared.form.Form.{Form}
use Rattle.golog_form.specs.Spelling.{nest}
use Rattle.golog_tree.specs.declared.draft.DraftTheory.{DraftTheory}
use Rattle.golog_tree.specs.declared.draft_prog.DraftProg.{DraftProg}
use Rattle.golog_theory.specs.Reading.{◌>>=◌, each}
use Rattle.golog_theory.specs.Parts.{parts}
use Rattle.golog_theory.specs.Recursion.{Part}
use Rattle.golog_rows.proofs.Each.{drop-item, each-drop}
use Rattle.golog_theory.proofs.Forms.{by_parts}
use Rattle.golog_theory.proofs.Descent.{deepest, rest_deeper, deepest_one, deepest_two, deepest_at}
use Rattle.golog_prog.specs.declared.procedures.Declared.{Declared}
use Rattle.golog_prog.specs.Constructs.{InScope}
use Rattle.golog_prog.specs.Procedures.{declared_in}
use Rattle.golog_prog.specs.Programs.{nil_of, prog_by, prog_of, prog_part}

pub deepest_three : (forms : List Form) (one other third : Form) (rest : List Form) → forms ≡ one ∷ other ∷ third ∷ rest → nest third ≤ deepest forms
deepest_three forms one other third rest e = let same = ap deepest e in omega (arith, same)

-- the program that a form spells, by its parts
pub prog_of-parts : (theory : DraftTheory) (procs : List Declared) (f : Form) (scope : ℕ) → prog_of theory procs f scope ≡ prog_by theory procs f (map (prog_part theory procs) (parts f)) scope
unfolding prog_of
prog_of-parts theory procs f scope = ap (λ (spelled : InScope). spelled scope) (by_parts (prog_by theory procs) f)

pub prog_of-none : (theory : DraftTheory) (procs : List Declared) (f : Form) (scope : ℕ) → parts f ≡ [] → prog_of theory procs f scope ≡ nil_of f
prog_of-none theory procs f scope none = prog_of-parts theory procs f scope ∙ ap (λ fs. prog_by theory procs f (map (prog_part theory procs) fs) scope) none

-- programs that are read one after another, one form further
pub progs-drop : (theory : DraftTheory) (procs : List Declared) (scope : ℕ) (done : List DraftProg) (forms : List Form) (i : ℕ) (f : Form) → i < length forms → f ≡ get_or forms i f
    → each (λ (_ : List DraftProg) (part : Part InScope). part.spelled scope) done (map (prog_part theory procs) (drop i forms))
    ≡ (prog_of theory procs f scope >>= λ prog. each (λ (_ : List DraftProg) (part : Part InScope). part.spelled scope) (done ++ prog ∷ []) (map (prog_part theory procs) (drop (i + 1) forms)))
progs-drop theory procs scope done forms i f lt is =
    ap (λ fs. each (λ (_ : List DraftProg) (part : Part InScope). part.spelled scope) done (map (prog_part theory procs) fs)) (drop-item forms i f lt is)

pub ruleset laws = (rest_deeper, deepest_one, deepest_two, deepest_three, deepest_at, prog_of-parts, prog_of-none, progs-drop)

-- what items declare, one item further
pub declared-drop : (items : List Form) (i : ℕ) (item : Form) → i < length items → item ≡ get_or items i item
    → declared_in (drop i items) ≡ declared_in (item ∷ drop (i + 1) items)
declared-drop items i item lt is = ap declared_in (drop-item items i item lt is)

pub ruleset each_laws = (each-drop)

pub ruleset declared_laws = (declared-drop)
