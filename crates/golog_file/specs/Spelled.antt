-- The agent that the bytes of a file spell, and the first refusal of bytes that spell none.
--
-- A file is read in stages: the form, the theory, the program, and the check of both.
use Rattle.std.specs.Prelude.{◌≡◌, ◌≤◌, ℕ, List, length, Result, Ok, Err}
use Rattle.golog_base.specs.Files.{file_limit}
use Rattle.golog_form.specs.declared.form.Form.{Form}
use Rattle.golog_form.specs.declared.fault.FormFault.TheVariants.{Refused as FormRefused}
use Rattle.golog_form.specs.Spelling.{Spells}
use Rattle.golog_form.specs.Faults.{IsAnswer}
use Rattle.golog_tree.specs.declared.agent.Agent.{Agent}
use Rattle.golog_tree.specs.declared.draft.DraftTheory.{DraftTheory}
use Rattle.golog_tree.specs.declared.draft.DraftProgram.{DraftProgram}
use Rattle.golog_theory.specs.Items.{theory_of}
use Rattle.golog_rows.specs.Order.{IsLeast, Fits}
use Rattle.golog_prog.specs.Items.{program_of}
use Rattle.golog_check.specs.declared.fault.CheckFault.TheVariants.{Refused as CheckRefused}
use Rattle.golog_check.specs.Check.{agent_of}
use Rattle.golog_check.specs.Order.{all_rows, IsLeastRow}
use Rattle.golog_file.specs.declared.reading.Understood.{Understood}
use Rattle.golog_file.specs.declared.fault.AgentFault.{AgentFault}
use Rattle.golog_file.specs.Faults.{AnswersBy, agent_code_at}

module _ (theory : DraftTheory) (program : DraftProgram) where
  -- no row of the check fits
  abbrev pub IsUnrefused : Type 0
  IsUnrefused = IsLeastRow {A = Agent} (Ok (agent_of theory program)) (all_rows theory program)

  -- the theory and the program make the agent
  pub record DraftSpells (agent : Agent) : Type 0 where
    pub unrefused : IsUnrefused
    pub is : agent ≡ agent_of theory program

  -- their first refusal: the least row of the check that fits
  abbrev pub DraftRefuses : ℕ → ℕ → Type 0
  DraftRefuses code at = IsLeastRow {A = Agent} (Err (CheckRefused code at)) (all_rows theory program)

  -- the agent, or the first refusal, unless memory ran out
  abbrev pub DraftAnswers : Result Agent AgentFault → Type 0
  DraftAnswers result = AnswersBy agent_code_at DraftSpells DraftRefuses result

-- the form spells the theory and the program
pub record SpellsDraft (form : Form) (theory : DraftTheory) (program : DraftProgram) : Type 0 where
  pub theory_read : (theory_of form).outcome ≡ Ok theory
  pub program_read : (program_of theory form).outcome ≡ Ok program

-- the form spells the agent
pub record FormSpells (form : Form) (agent : Agent) : Type 0 where
  pub theory : DraftTheory
  pub program : DraftProgram
  pub read : SpellsDraft form theory program
  pub draft : DraftSpells theory program agent

-- The code and the place of the first refusal of a form, in the order of the stages: of each stage the least
-- row that fits.
pub data FormRefuses (form : Form) : ℕ → ℕ → Type 0 where
  of_theory : (code at : ℕ) → IsLeast (Fits (theory_of form).rows) code at → FormRefuses form code at
  of_program : (code at : ℕ) (theory : DraftTheory) → (theory_of form).outcome ≡ Ok theory
      → IsLeast (Fits (program_of theory form).rows) code at → FormRefuses form code at
  of_draft : (code at : ℕ) (theory : DraftTheory) (program : DraftProgram) → SpellsDraft form theory program
      → DraftRefuses theory program code at → FormRefuses form code at

-- the bytes are within the limit and spell the form
pub record SpellsForm (bytes : List ℕ) (form : Form) : Type 0 where
  pub small : length bytes ≤ file_limit
  pub spelled : Spells bytes form

pub record SpellsAgent (bytes : List ℕ) (agent : Agent) : Type 0 where
  pub form : Form
  pub bytes_spell : SpellsForm bytes form
  pub form_spells : FormSpells form agent

-- the first refusal of the bytes of a file
pub data IsFirstRefusal (bytes : List ℕ) : ℕ → ℕ → Type 0 where
  of_bytes : (code at : ℕ) → IsAnswer {A = Form} bytes (Err (FormRefused code at))
      → IsFirstRefusal bytes code at
  of_form : (code at : ℕ) (form : Form) → SpellsForm bytes form → FormRefuses form code at
      → IsFirstRefusal bytes code at

-- what a reader of a form answers: the agent that it spells, or its first refusal, unless memory ran out
abbrev pub FormAnswers : Result Agent AgentFault → Form → Type 0
FormAnswers result form = AnswersBy agent_code_at (FormSpells form) (FormRefuses form) result

-- the same of the bytes of a file
abbrev pub Reads : Result Agent AgentFault → List ℕ → Type 0
Reads result bytes = AnswersBy agent_code_at (SpellsAgent bytes) (IsFirstRefusal bytes) result

-- the form spells the agent, over this theory
pub record FormSpellsWith (form : Form) (theory : DraftTheory) (agent : Agent) : Type 0 where
  pub theory_read : (theory_of form).outcome ≡ Ok theory
  pub form_spells : FormSpells form agent

-- the bytes spell the agent, over this theory
pub record SpellsWith (bytes : List ℕ) (theory : DraftTheory) (agent : Agent) : Type 0 where
  pub form : Form
  pub bytes_spell : SpellsForm bytes form
  pub form_spells : FormSpellsWith form theory agent

-- the same answers, with the theory beside the agent
abbrev pub FormAnswersWith : Result Understood AgentFault → Form → Type 0
FormAnswersWith result form =
    AnswersBy agent_code_at (λ (u : Understood). FormSpellsWith form u.theory u.agent) (FormRefuses form) result

abbrev pub ReadsWith : Result Understood AgentFault → List ℕ → Type 0
ReadsWith result bytes =
    AnswersBy agent_code_at (λ (u : Understood). SpellsWith bytes u.theory u.agent) (IsFirstRefusal bytes) result
