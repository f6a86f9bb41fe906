-- The items `proc` and `main` of an agent file, one after another, and the program that they make. Each is read
-- over the theory as far as it is declared before the item; a procedure may be called anywhere.
use Rattle.std.specs.Prelude.{ℕ, ◌||◌, nat_lt, nat_le, not, Bool, if◌then◌else◌, List, [], ◌∷◌, ◌++◌, length, Option, Some, None, is_some, is_none, codes}
use Rattle.std.specs.List.{list_any}
use Rattle.golog_base.specs.Names.{is_name}
use Rattle.golog_form.specs.declared.form.Form.{Form}
use Rattle.golog_form.specs.Shape.{place_of, items_of}
use Rattle.golog_tree.specs.declared.draft.DraftTheory.{DraftTheory}
use Rattle.golog_tree.specs.declared.draft.DraftParam.{DraftParam}
use Rattle.golog_tree.specs.declared.draft.DraftProc.{DraftProc}
use Rattle.golog_tree.specs.declared.draft.DraftMain.{DraftMain}
use Rattle.golog_tree.specs.declared.draft.DraftProgram.{DraftProgram}
use Rattle.golog_theory.specs.Codes.{UNKNOWN_FORM, DUPLICATE, COUNT}
use Rattle.golog_theory.specs.Reading.{Reading, gives, refused, row, ◌>>=◌, found, each}
use Rattle.golog_theory.specs.Names.{same, is_taken}
use Rattle.golog_theory.specs.Parts.{word, parts, short_name, sort_of}
use Rattle.golog_theory.specs.Heads.{head_word, arguments}
use Rattle.golog_theory.specs.Before.{before}
use Rattle.golog_theory.specs.Limits.{ARGUMENTS}
use Rattle.golog_prog.specs.Limits.{NO_MAIN, PROCEDURES}
use Rattle.golog_prog.specs.declared.items.SoFar.{SoFar}
use Rattle.golog_prog.specs.declared.procedures.Declared.{Declared}
use Rattle.golog_prog.specs.Procedures.{declared_in}
use Rattle.golog_prog.specs.Programs.{prog_of}

-- the name of a procedure: no item of the theory declares it, earlier or later, and no earlier procedure has it
unfoldable pub proc_name : DraftTheory → List DraftProc → Form → Reading (List ℕ)
proc_name theory earlier form =
    row (not (is_name (word form))) UNKNOWN_FORM (place_of form)
    (row
    (is_taken theory (word form) || list_any (λ (proc : DraftProc). same (word form) proc.name) earlier)
    DUPLICATE (place_of form)
    (short_name form))

-- the variable of a parameter: none of the earlier parameters has it
unfoldable pub param_var : List DraftParam → Form → Reading (List ℕ)
param_var earlier form =
    row (not (is_name (word form))) UNKNOWN_FORM (place_of form)
    (row (list_any (λ (param : DraftParam). same (word form) param.var) earlier) DUPLICATE (place_of form)
    (short_name form))

abbrev pub param_by : DraftTheory → List DraftParam → ℕ → List Form → Reading DraftParam
param_by theory earlier at (var ∷ sort ∷ []) =
    param_var earlier var >>= λ var. sort_of theory sort >>= λ sort. gives (record { var = var; sort = sort })
param_by theory earlier at _ = refused UNKNOWN_FORM at

-- `(VAR SORT)`, behind the earlier parameters
unfoldable pub param_of : DraftTheory → List DraftParam → Form → Reading DraftParam
param_of theory earlier form = param_by theory earlier (place_of form) (parts form)

-- `(PARAMS)`, at most three
unfoldable pub params_of : DraftTheory → Form → Reading (List DraftParam)
params_of theory form =
    row (is_none (items_of form)) UNKNOWN_FORM (place_of form)
    (row (nat_lt ARGUMENTS (length (parts form))) COUNT (place_of form)
    (each (param_of theory) [] (parts form)))

-- `(proc NAME (PARAMS) PROG)`
unfoldable pub proc_item : DraftTheory → List Declared → List DraftProc → ℕ → List Form → Reading DraftProc
proc_item theory procs earlier at (name ∷ params ∷ body ∷ []) =
    row (nat_le PROCEDURES (length earlier)) COUNT at
    (proc_name theory earlier name >>= λ name.
    params_of (before at theory) params >>= λ params.
    prog_of (before at theory) procs body (length params) >>= λ body.
    gives (record { name = name; params = params; body = body; at = at }))
proc_item theory procs earlier at _ = refused UNKNOWN_FORM at

abbrev pub main_by : DraftTheory → List Declared → ℕ → List Form → Reading DraftMain
main_by theory procs at (body ∷ []) =
    prog_of (before at theory) procs body 0 >>= λ body. gives (record { body = body; at = at })
main_by theory procs at _ = refused UNKNOWN_FORM at

-- `(main PROG)`. A second one is refused whatever stands in it.
unfoldable pub main_item : DraftTheory → List Declared → Option DraftMain → ℕ → List Form → Reading DraftMain
main_item theory procs main at parts =
    if is_some main then refused DUPLICATE at else main_by theory procs at parts

-- the item put to what was read so far, where it is one of the program
unfoldable pub proc_read : DraftTheory → List Declared → SoFar → ℕ → List Form → Reading SoFar
proc_read theory procs so_far at parts =
    proc_item theory procs so_far.procs at parts >>= λ proc.
    gives (record so_far { procs = so_far.procs ++ proc ∷ [] })

unfoldable pub main_read : DraftTheory → List Declared → SoFar → ℕ → List Form → Reading SoFar
main_read theory procs so_far at parts =
    main_item theory procs so_far.main at parts >>= λ main. gives (record so_far { main = Some main })

unfoldable pub read_by : DraftTheory → List Declared → SoFar → ℕ → List ℕ → List Form → Reading SoFar
read_by theory procs so_far at keyword parts =
    if same keyword (codes "proc") then proc_read theory procs so_far at parts
    else if same keyword (codes "main") then main_read theory procs so_far at parts
    else gives so_far

abbrev pub item_read : DraftTheory → List Declared → SoFar → Form → Reading SoFar
item_read theory procs so_far form =
    read_by theory procs so_far (place_of form) (head_word form) (arguments form)

-- what was read after these items, one after another
abbrev pub items_read : DraftTheory → List Declared → SoFar → List Form → Reading SoFar
items_read theory procs so_far [] = gives so_far
items_read theory procs so_far (form ∷ forms) =
    item_read theory procs so_far form >>= λ next. items_read theory procs next forms

abbrev pub nothing : SoFar
nothing = record { procs = []; main = None }

abbrev pub is_main : Form → Bool
is_main form = same (head_word form) (codes "main")

-- the procedures and `main`, which was read where it stands among the items
abbrev pub program_with : ℕ → SoFar → Reading DraftProgram
program_with at so_far =
    found NO_MAIN at so_far.main >>= λ main. gives (record { procs = so_far.procs; main = main })

abbrev pub program_in : DraftTheory → ℕ → List Form → Reading DraftProgram
program_in theory at items =
    if list_any is_main items
    then items_read theory (declared_in items) nothing items >>= program_with at
    else refused NO_MAIN at

-- `(agent ITEM ITEM)`, some item being `main`: the program that its items make over the theory
unfoldable pub program_of : DraftTheory → Form → Reading DraftProgram
program_of theory form =
    row (not (same (head_word form) (codes "agent"))) UNKNOWN_FORM (place_of form)
    (program_in theory (place_of form) (arguments form))
