-- The actions and procedures that a program names.
use Rattle.std.specs.Prelude.{ℕ, if◌then◌else◌, List, length, Option, Some, None, position, slice_get, nat_lt}
use Rattle.golog_base.specs.Names.{is_name}
use Rattle.golog_form.specs.declared.form.Form.{Form}
use Rattle.golog_form.specs.Shape.{place_of}
use Rattle.golog_tree.specs.declared.draft.DraftTheory.{DraftTheory}
use Rattle.golog_tree.specs.declared.draft.DraftAction.{DraftAction}
use Rattle.golog_theory.specs.declared.heads.Callee.{Callee}
use Rattle.golog_theory.specs.Codes.{UNKNOWN_FORM}
use Rattle.golog_theory.specs.Heads.{declared_with}
use Rattle.golog_theory.specs.Reading.{Reading, refused}
use Rattle.golog_theory.specs.Names.{same, action_no}
use Rattle.golog_theory.specs.Parts.{word}
use Rattle.golog_prog.specs.declared.procedures.Declared.{Declared}

-- an action that a program may do, which is none that devices post
abbrev pub own_action : ℕ → Option DraftAction → Option Callee
own_action item None = None
own_action item (Some action) =
    if nat_lt 0 (length action.posters) then None else Some (record { item = item; arity = length action.args })

abbrev pub action_at : DraftTheory → Option ℕ → Option Callee
action_at theory None = None
action_at theory (Some item) = own_action item (slice_get theory.actions item)

-- the action with the name, one of the program or a built-in one
unfoldable pub action_named : DraftTheory → List ℕ → Option Callee
action_named theory name = action_at theory (action_no theory name)

abbrev pub procedure : ℕ → Option Declared → Option Callee
procedure item None = None
procedure item (Some proc) = Some (record { item = item; arity = proc.params })

abbrev pub proc_at : List Declared → Option ℕ → Option Callee
proc_at procs None = None
proc_at procs (Some item) = procedure item (slice_get procs item)

-- the procedure with the name
unfoldable pub proc_named : List Declared → List ℕ → Option Callee
proc_named procs name = proc_at procs (position (λ (proc : Declared). same name proc.name) procs)

-- The number of the action or procedure that a form names, with these arguments, in a form at the place.
unfoldable pub named : ℕ → Form → List Form → Option Callee → Reading ℕ
named at name args callee =
    if is_name (word name)
    then declared_with at (place_of name) (length args) callee
    else refused UNKNOWN_FORM (place_of name)
