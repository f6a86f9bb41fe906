-- What a list spells as a program behind each keyword, in view of its parts.
use Rattle.std.specs.Prelude.{ℕ, ◌+◌, nat_lt, nat_le, false, List, [], ◌∷◌, length}
use Rattle.golog_form.specs.declared.form.Form.{Form}
use Rattle.golog_tree.specs.declared.draft.DraftTheory.{DraftTheory}
use Rattle.golog_tree.specs.declared.draft_cond.DraftCond.{DraftCond}
use Rattle.golog_tree.specs.declared.draft_cond.DraftCond.TheVariants.{Truth, Is}
use Rattle.golog_tree.specs.declared.draft_prog.DraftProg.{DraftProg}
use Rattle.golog_tree.specs.declared.draft_prog.DraftProg.TheVariants.{Nil, Act, Test, Seq, Choice, Pick, Star, If, While, Conc, Prio, Cstar, Call, Search}
use Rattle.golog_theory.specs.Codes.{UNKNOWN_FORM, COUNT}
use Rattle.golog_theory.specs.Reading.{Reading, gives, refused, row, ◌>>=◌, each}
use Rattle.golog_theory.specs.Parts.{word, number_of}
use Rattle.golog_theory.specs.Heads.{args_of}
use Rattle.golog_theory.specs.Conditions.{binder_of, cond_of}
use Rattle.golog_theory.specs.Recursion.{Part}
use Rattle.golog_theory.specs.Limits.{VARIABLES}
use Rattle.golog_prog.specs.declared.procedures.Declared.{Declared}
use Rattle.golog_prog.specs.declared.programs.Guarded.{Guarded}
use Rattle.golog_prog.specs.Callees.{action_named, proc_named, named}

-- The built-in fluent and the built-in actions of these names, by their places: they stand first among those that
-- are declared (golog_draft, `BeginsBuiltIn`, has their names).
abbrev pub interrupts_running : ℕ
interrupts_running = 0

abbrev pub start_interrupts : ℕ
start_interrupts = 0

abbrev pub stop_interrupts : ℕ
stop_interrupts = 1

-- what a form spells as a program, within any number of variables
abbrev pub InScope : Type 0
InScope = ℕ → Reading DraftProg

-- `(act ACTION ARGS)`
unfoldable pub act_of : DraftTheory → ℕ → List Form → Reading DraftProg
act_of theory at (name ∷ args) =
    named at name args (action_named theory (word name)) >>= λ action.
    args_of args >>= λ args.
    gives (Act action args at)
act_of theory at [] = refused UNKNOWN_FORM at

-- `(call PROC ARGS)`
unfoldable pub call_of : List Declared → ℕ → List Form → Reading DraftProg
call_of procs at (name ∷ args) =
    named at name args (proc_named procs (word name)) >>= λ proc.
    args_of args >>= λ args.
    gives (Call proc args at)
call_of procs at [] = refused UNKNOWN_FORM at

-- `(test COND)`
unfoldable pub test_of : DraftTheory → ℕ → ℕ → List (Part InScope) → Reading DraftProg
test_of theory scope at (cond ∷ []) = cond_of theory cond.form scope >>= λ cond. gives (Test cond at)
test_of theory scope at _ = refused UNKNOWN_FORM at

-- programs, one after another
unfoldable pub progs_of : ℕ → List (Part InScope) → Reading (List DraftProg)
progs_of scope parts = each (λ _ part. part.spelled scope) [] parts

-- at least two programs
unfoldable pub several_of : ℕ → ℕ → List (Part InScope) → Reading (List DraftProg)
several_of scope at parts = row (nat_lt (length parts) 2) UNKNOWN_FORM at (progs_of scope parts)

-- `(seq PROGS)`
unfoldable pub seq_of : ℕ → ℕ → List (Part InScope) → Reading DraftProg
seq_of scope at parts = progs_of scope parts >>= λ progs. gives (Seq progs at)

-- `(choice PROG PROG)`, `(conc PROG PROG)`, `(prio PROG PROG)`, each with more
unfoldable pub choice_of : ℕ → ℕ → List (Part InScope) → Reading DraftProg
choice_of scope at parts = several_of scope at parts >>= λ progs. gives (Choice progs at)

unfoldable pub conc_of : ℕ → ℕ → List (Part InScope) → Reading DraftProg
conc_of scope at parts = several_of scope at parts >>= λ progs. gives (Conc progs at)

unfoldable pub prio_of : ℕ → ℕ → List (Part InScope) → Reading DraftProg
prio_of scope at parts = several_of scope at parts >>= λ progs. gives (Prio progs at)

-- `(pick (VAR SORT) PROG)`, where the variable is not one too many
unfoldable pub pick_of : DraftTheory → ℕ → ℕ → List (Part InScope) → Reading DraftProg
pick_of theory scope at (binder ∷ body ∷ []) =
    row (nat_le VARIABLES scope) COUNT at
    (binder_of theory binder.form >>= λ binder.
    body.spelled (scope + 1) >>= λ body.
    gives (Pick binder.var binder.sort body at))
pick_of theory scope at _ = refused UNKNOWN_FORM at

-- one program
unfoldable pub one_of : ℕ → ℕ → List (Part InScope) → Reading DraftProg
one_of scope at (body ∷ []) = body.spelled scope
one_of scope at _ = refused UNKNOWN_FORM at

-- `(star PROG)`, `(cstar PROG)`
unfoldable pub star_of : ℕ → ℕ → List (Part InScope) → Reading DraftProg
star_of scope at parts = one_of scope at parts >>= λ body. gives (Star body at)

unfoldable pub cstar_of : ℕ → ℕ → List (Part InScope) → Reading DraftProg
cstar_of scope at parts = one_of scope at parts >>= λ body. gives (Cstar body at)

-- a condition and a program
unfoldable pub guarded_of : DraftTheory → ℕ → Part InScope → Part InScope → Reading Guarded
guarded_of theory scope cond body =
    cond_of theory cond.form scope >>= λ cond.
    body.spelled scope >>= λ body.
    gives (record { cond = cond; body = body })

-- `(if COND PROG)`, which has `nil` for its other part, or `(if COND PROG PROG)`
unfoldable pub if_of : DraftTheory → ℕ → ℕ → List (Part InScope) → Reading DraftProg
if_of theory scope at (cond ∷ body ∷ []) =
    guarded_of theory scope cond body >>= λ guarded.
    gives (If guarded.cond guarded.body (Nil at) at)
if_of theory scope at (cond ∷ body ∷ other ∷ []) =
    guarded_of theory scope cond body >>= λ guarded.
    other.spelled scope >>= λ other.
    gives (If guarded.cond guarded.body other at)
if_of theory scope at _ = refused UNKNOWN_FORM at

-- a condition and a program, and nothing more
unfoldable pub guard_of : DraftTheory → ℕ → ℕ → List (Part InScope) → Reading Guarded
guard_of theory scope at (cond ∷ body ∷ []) = guarded_of theory scope cond body
guard_of theory scope at _ = refused UNKNOWN_FORM at

-- `(while COND PROG)`
unfoldable pub while_of : DraftTheory → ℕ → ℕ → List (Part InScope) → Reading DraftProg
while_of theory scope at parts =
    guard_of theory scope at parts >>= λ guarded. gives (While guarded.cond guarded.body at)

-- `(search DEPTH FUEL PROG)`
unfoldable pub search_of : ℕ → ℕ → List (Part InScope) → Reading DraftProg
search_of scope at (depth ∷ fuel ∷ body ∷ []) =
    number_of depth.form >>= λ depth.
    number_of fuel.form >>= λ fuel.
    body.spelled scope >>= λ body.
    gives (Search depth fuel body at)
search_of scope at _ = refused UNKNOWN_FORM at

-- `(while (interrupts_running) (if COND PROG (test false)))`
abbrev pub interrupt : DraftCond → DraftProg → ℕ → DraftProg
interrupt cond body at = While (Is interrupts_running [] at) (If cond body (Test (Truth false at) at) at) at

-- `(interrupt COND PROG)`
unfoldable pub interrupt_of : DraftTheory → ℕ → ℕ → List (Part InScope) → Reading DraftProg
interrupt_of theory scope at parts =
    guard_of theory scope at parts >>= λ guarded. gives (interrupt guarded.cond guarded.body at)

-- `(seq (act start_interrupts) (prio PROG (act stop_interrupts)))`
abbrev pub interrupts : DraftProg → ℕ → DraftProg
interrupts body at =
    Seq (Act start_interrupts [] at ∷ Prio (body ∷ Act stop_interrupts [] at ∷ []) at ∷ []) at

-- `(interrupts PROG)`
unfoldable pub interrupts_of : ℕ → ℕ → List (Part InScope) → Reading DraftProg
interrupts_of scope at parts = one_of scope at parts >>= λ body. gives (interrupts body at)
