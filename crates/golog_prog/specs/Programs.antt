-- The programs that forms spell, within so many variables.
use Rattle.std.specs.Prelude.{ℕ, if◌then◌else◌, List, [], ◌∷◌, map, codes, Option, Some, None}
use Rattle.golog_form.specs.declared.form.Form.{Form}
use Rattle.golog_form.specs.Shape.{place_of}
use Rattle.golog_tree.specs.declared.draft.DraftTheory.{DraftTheory}
use Rattle.golog_tree.specs.declared.draft_prog.DraftProg.{DraftProg}
use Rattle.golog_tree.specs.declared.draft_prog.DraftProg.TheVariants.{Nil}
use Rattle.golog_theory.specs.Codes.{UNKNOWN_FORM}
use Rattle.golog_theory.specs.Reading.{Reading, gives, refused}
use Rattle.golog_theory.specs.Names.{same}
use Rattle.golog_theory.specs.Parts.{word}
use Rattle.golog_theory.specs.Heads.{arguments}
use Rattle.golog_theory.specs.Recursion.{Part, part_of}
use Rattle.golog_prog.specs.declared.keyword.Keyword.{Keyword}
use Rattle.golog_prog.specs.declared.keyword.Keyword.TheVariants.{Act, Test, Seq, Choice, Pick, Star, If, While, Conc, Prio, Cstar, Call, Search, Interrupt, Interrupts}
use Rattle.golog_prog.specs.declared.procedures.Declared.{Declared}
use Rattle.golog_prog.specs.Keywords.{keyword_of}
use Rattle.golog_prog.specs.Constructs.{InScope, act_of, call_of, test_of, seq_of, choice_of, conc_of, prio_of, pick_of, star_of, cstar_of, if_of, while_of, search_of, interrupt_of, interrupts_of}

-- `nil`
unfoldable pub nil_of : Form → Reading DraftProg
nil_of form =
    if same (word form) (codes "nil") then gives (Nil (place_of form)) else refused UNKNOWN_FORM (place_of form)

-- A list spells a program by its keyword.
unfoldable pub construct_of : DraftTheory → List Declared → Form → ℕ → Keyword → List (Part InScope) → Reading DraftProg
construct_of theory procs form scope Act parts = act_of theory (place_of form) (arguments form)
construct_of theory procs form scope Test parts = test_of theory scope (place_of form) parts
construct_of theory procs form scope Seq parts = seq_of scope (place_of form) parts
construct_of theory procs form scope Choice parts = choice_of scope (place_of form) parts
construct_of theory procs form scope Pick parts = pick_of theory scope (place_of form) parts
construct_of theory procs form scope Star parts = star_of scope (place_of form) parts
construct_of theory procs form scope If parts = if_of theory scope (place_of form) parts
construct_of theory procs form scope While parts = while_of theory scope (place_of form) parts
construct_of theory procs form scope Conc parts = conc_of scope (place_of form) parts
construct_of theory procs form scope Prio parts = prio_of scope (place_of form) parts
construct_of theory procs form scope Cstar parts = cstar_of scope (place_of form) parts
construct_of theory procs form scope Call parts = call_of procs (place_of form) (arguments form)
construct_of theory procs form scope Search parts = search_of scope (place_of form) parts
construct_of theory procs form scope Interrupt parts = interrupt_of theory scope (place_of form) parts
construct_of theory procs form scope Interrupts parts = interrupts_of scope (place_of form) parts

abbrev pub list_of : DraftTheory → List Declared → Form → ℕ → Option Keyword → List (Part InScope) → Reading DraftProg
list_of theory procs form scope None parts = refused UNKNOWN_FORM (place_of form)
list_of theory procs form scope (Some keyword) parts = construct_of theory procs form scope keyword parts

-- A program is `nil`, or a list behind a keyword.
abbrev pub prog_by : DraftTheory → List Declared → Form → List (Part InScope) → InScope
prog_by theory procs form [] scope = nil_of form
prog_by theory procs form (head ∷ parts) scope =
    list_of theory procs form scope (keyword_of (word head.form)) parts

-- the program that a form spells within so many variables
unfoldable pub prog_of : DraftTheory → List Declared → Form → ℕ → Reading DraftProg
prog_of theory procs form scope = (part_of (prog_by theory procs) form).spelled scope

-- a form and the program that it spells
abbrev pub prog_part : DraftTheory → List Declared → Form → Part InScope
prog_part theory procs form = record { form = form; spelled = prog_of theory procs form }

abbrev pub prog_parts : DraftTheory → List Declared → List Form → List (Part InScope)
prog_parts theory procs forms = map (prog_part theory procs) forms
