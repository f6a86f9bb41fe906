-- The condition that bytes spell over an agent and its theory, and the first refusal of bytes that spell none.
--
-- They are read in stages: the form, the draft over the theory, and its check over the agent.
use Rattle.std.specs.Prelude.{◌≡◌, ℕ, List, [], Result, Ok, Err}
use Rattle.golog_form.specs.declared.form.Form.{Form}
use Rattle.golog_form.specs.declared.fault.FormFault.TheVariants.{Refused as FormRefused}
use Rattle.golog_form.specs.Faults.{IsAnswer}
use Rattle.golog_tree.specs.declared.agent.Agent.{Agent}
use Rattle.golog_tree.specs.declared.cond.Cond.{Cond}
use Rattle.golog_tree.specs.declared.draft.DraftTheory.{DraftTheory}
use Rattle.golog_tree.specs.declared.draft_cond.DraftCond.{DraftCond}
use Rattle.golog_draft.specs.Drafts.{CondKeeps, AgentCondKeeps}
use Rattle.golog_rows.specs.Order.{IsLeast, Fits}
use Rattle.golog_theory.specs.Conditions.{cond_of}
use Rattle.golog_check.specs.DeclaredItems.{declared_in}
use Rattle.golog_check.specs.Conditions.{cond_in}
use Rattle.golog_file.specs.Spelled.{SpellsForm}
use Rattle.golog_file.specs.declared.fault.CondFault.{CondFault}
use Rattle.golog_file.specs.Faults.{AnswersBy, cond_code_at}

-- conditions that keep the rules over the theory keep them over the agent
abbrev pub CondsStayKept : DraftTheory → Agent → Type 0
CondsStayKept theory agent = (cond : DraftCond) → CondKeeps theory cond → AgentCondKeeps agent cond

module _ (theory : DraftTheory) (agent : Agent) where
  -- the form spells the condition, by a draft
  pub record FormSpellsCond (form : Form) (cond : Cond) : Type 0 where
    pub draft : DraftCond
    pub draft_read : (cond_of theory form 0).outcome ≡ Ok draft
    pub checked : (cond_in (declared_in agent) draft []).outcome ≡ Ok cond

  -- the bytes are within the limit and spell the condition
  pub record SpellsCond (bytes : List ℕ) (cond : Cond) : Type 0 where
    pub form : Form
    pub bytes_spell : SpellsForm bytes form
    pub form_spells : FormSpellsCond form cond

  -- The code and the place of the first refusal of a form, in the order of the stages: of each stage the least
  -- row that fits.
  pub data FormRefusesCond (form : Form) : ℕ → ℕ → Type 0 where
    of_draft : (code at : ℕ) → IsLeast (Fits (cond_of theory form 0).rows) code at → FormRefusesCond form code at
    of_check : (code at : ℕ) (draft : DraftCond) → (cond_of theory form 0).outcome ≡ Ok draft
        → IsLeast (Fits (cond_in (declared_in agent) draft []).rows) code at → FormRefusesCond form code at

  -- the first refusal of the bytes
  pub data RefusesCond (bytes : List ℕ) : ℕ → ℕ → Type 0 where
    of_bytes : (code at : ℕ) → IsAnswer {A = Form} bytes (Err (FormRefused code at)) → RefusesCond bytes code at
    of_form : (code at : ℕ) (form : Form) → SpellsForm bytes form → FormRefusesCond form code at
        → RefusesCond bytes code at

  -- what a reader of a form answers: the condition that it spells, or its first refusal, unless memory ran out
  abbrev pub FormAnswersCond : Result Cond CondFault → Form → Type 0
  FormAnswersCond result form = AnswersBy cond_code_at (FormSpellsCond form) (FormRefusesCond form) result

  -- the same of bytes
  abbrev pub ReadsCond : Result Cond CondFault → List ℕ → Type 0
  ReadsCond result bytes = AnswersBy cond_code_at (SpellsCond bytes) (RefusesCond bytes) result
