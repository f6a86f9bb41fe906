-- The program that a printed text spells over what an agent declares.
use Rattle.std.specs.Prelude.{◌≡◌, ℕ, IsTrue, Ok, List, [], length, map}
use Rattle.golog_form.specs.declared.form.Form.{Form}
use Rattle.golog_form.specs.Tokens.{tokens}
use Rattle.golog_form.specs.Spelling.{spelling}
use Rattle.golog_tree.specs.declared.agent.Agent.{Agent}
use Rattle.golog_tree.specs.declared.agent.ProcItem.{ProcItem}
use Rattle.golog_tree.specs.declared.prog.Prog.{Prog}
use Rattle.golog_tree.specs.declared.draft.DraftTheory.{DraftTheory}
use Rattle.golog_tree.specs.declared.draft_prog.DraftProg.{DraftProg}
use Rattle.golog_semantics.specs.WellFormed.{WellFormed}
use Rattle.golog_semantics.specs.ProgFits.{fits}
use Rattle.golog_semantics.specs.Written.{is_written_prog}
use Rattle.golog_check.specs.DeclaredItems as check
use Rattle.golog_check.specs.DeclaredItems.{sort_item, fluent_item, action_item}
use Rattle.golog_check.specs.Programs.{prog_in}
use Rattle.golog_prog.specs.declared.procedures.Declared.{Declared}
use Rattle.golog_prog.specs.Programs.{prog_of}

-- the theory declares the sorts, the fluents and the actions of the agent
pub record IsTheoryOf (agent : Agent) (theory : DraftTheory) : Type 0 where
  pub sorts : map sort_item theory.sorts ≡ agent.sorts
  pub fluents : map fluent_item theory.fluents ≡ agent.fluents
  pub actions : map action_item theory.actions ≡ agent.actions

-- the procedures of an agent, as a reader of programs and as the check sees them
abbrev pub procs_in : Agent → List Declared
procs_in agent = map (λ (proc : ProcItem). record { name = proc.name; params = length proc.params }) agent.procs

abbrev pub names_in : Agent → check.Declared
names_in agent =
    record (check.declared_in agent) { params = map (λ (proc : ProcItem). proc.params) agent.procs }

-- The form spells a draft over each such theory, beside the agent's procedures, and the check makes the program
-- of it.
abbrev pub SpellsProg : Agent → Prog → Form → Type 0
SpellsProg agent prog form =
    (theory : DraftTheory) → IsTheoryOf agent theory
    → (draft : DraftProg) × ((prog_of theory (procs_in agent) form 0).outcome ≡ Ok draft)
    × ((prog_in (names_in agent) draft []).outcome ≡ Ok prog)

-- the text spells a form that spells the program, limits of size and nesting aside
abbrev pub ReadsBack : List ℕ → Agent → Prog → Type 0
ReadsBack text agent prog = (form : Form) × (tokens text ≡ spelling form) × SpellsProg agent prog form

-- a program of a well-formed agent that a file can say
pub record IsPrintable (agent : Agent) (prog : Prog) : Type 0 where
  pub formed : WellFormed agent
  pub fitting : IsTrue (fits agent prog)
  pub written : IsTrue (is_written_prog agent prog 0)
