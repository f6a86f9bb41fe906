-- The procedures that the items of a file declare, which any program of the file may call.
use Rattle.std.specs.Prelude.{ℕ, ◌&&◌, nat_le, Bool, if◌then◌else◌, List, [], ◌∷◌, length, filter_map, Option, Some, None, codes}
use Rattle.golog_base.specs.Names.{is_name}
use Rattle.golog_form.specs.declared.form.Form.{Form}
use Rattle.golog_form.specs.Shape.{items_of}
use Rattle.golog_theory.specs.Names.{same}
use Rattle.golog_theory.specs.Parts.{word}
use Rattle.golog_theory.specs.Heads.{head_word, arguments}
use Rattle.golog_theory.specs.Limits.{NAME_BYTES}
use Rattle.golog_prog.specs.declared.procedures.Declared.{Declared}

-- a name that can be declared
abbrev pub is_word : List ℕ → Bool
is_word text = nat_le (length text) NAME_BYTES && is_name text

-- a procedure with so many parameters, where its name can be declared
abbrev pub with_params : List ℕ → List Form → Option Declared
with_params name params =
    if is_word name then Some (record { name = name; params = length params }) else None

abbrev pub with_list : List ℕ → Option (List Form) → Option Declared
with_list name None = None
with_list name (Some params) = with_params name params

-- `(proc NAME (PARAMS) PROG)` declares a procedure by its name, its parameters being whatever stands there.
abbrev pub by_shape : List Form → Option Declared
by_shape (name ∷ params ∷ body ∷ []) = with_list (word name) (items_of params)
by_shape _ = None

-- the procedure that an item declares
unfoldable pub declared_by : Form → Option Declared
declared_by item =
    if same (head_word item) (codes "proc") then by_shape (arguments item) else None

-- the procedures that the items declare, in the order of the file
abbrev pub declared_in : List Form → List Declared
declared_in items = filter_map declared_by items
