-- What a reader of files answers, stage by stage.
use Rattle.std.proofs.Common.{◌≡◌, ℕ, List, IfOk, Result, Ok, Err}
use Rattle.golog_form.specs.declared.form.Form.{Form}
use Rattle.golog_form.specs.declared.fault.FormFault.{FormFault}
use Rattle.golog_form.specs.declared.fault.FormFault.TheVariants as form
use Rattle.golog_form.specs.Spelling.{Spells}
use Rattle.golog_form.specs.Faults.{IsAnswer}
use Rattle.golog_tree.specs.declared.agent.Agent.{Agent}
use Rattle.golog_tree.specs.declared.draft.DraftTheory.{DraftTheory}
use Rattle.golog_tree.specs.declared.draft.DraftProgram.{DraftProgram}
use Rattle.golog_theory.specs.declared.fault.TheoryFault.{TheoryFault}
use Rattle.golog_theory.specs.declared.fault.TheoryFault.TheVariants as reading
use Rattle.golog_theory.specs.Items.{theory_of}
use Rattle.golog_theory.specs.Order.{IsLeastRow}
use Rattle.golog_prog.specs.Items.{program_of}
use Rattle.golog_check.specs.declared.fault.CheckFault.{CheckFault}
use Rattle.golog_check.specs.declared.fault.CheckFault.TheVariants as check
use Rattle.golog_check.specs.Check.{Checks}
use Rattle.golog_check.specs.Order.{all_rows, IsLeastRow as IsLeastChecked}
use Rattle.golog_file.specs.declared.fault.AgentFault.{AgentFault}
use Rattle.golog_file.specs.declared.fault.AgentFault.TheVariants.{Refused, Memory}
use Rattle.golog_file.specs.Faults.{fault_of_form, fault_of_theory, fault_of_check}
use Rattle.golog_file.specs.declared.reading.Understood.{Understood}
use Rattle.golog_file.specs.Conditions.{CondsStayKept}
use Rattle.golog_file.specs.Spelled.{DraftSpells, DraftAnswers, SpellsDraft, FormSpells, of_theory, of_program, of_draft, SpellsAgent, FormAnswers, of_bytes, of_form, Reads, FormSpellsWith, SpellsWith, FormAnswersWith, ReadsWith}
use Rattle.golog_file.proofs.Asked.{asked}

module _ (theory : DraftTheory) (program : DraftProgram) where
  pub spells : (agent : Agent) → Checks (Ok agent) theory program → IsLeastChecked {A = Agent} (Ok agent) (all_rows theory program) → DraftSpells theory program agent
  spells agent c l = record { unrefused = l; is = c.1 }

  pub refused : (fault : CheckFault) → IsLeastChecked {A = Agent} (Err fault) (all_rows theory program) → DraftAnswers theory program (Err (fault_of_check fault))
  refused (check.Refused code at) l = l
  refused check.Memory l = tt

pub draft-read : (form : Form) (theory : DraftTheory) (program : DraftProgram) (result : Result Agent AgentFault) → SpellsDraft form theory program → DraftAnswers theory program result → FormAnswers result form
draft-read form theory program (Ok agent) s a = record { theory = theory; program = program; read = s; draft = a }
draft-read form theory program (Err (Refused code at)) s a = of_draft code at theory program s a
draft-read form theory program (Err Memory) s a = tt

pub program-refused : (form : Form) (theory : DraftTheory) (fault : TheoryFault) → (theory_of form).outcome ≡ Ok theory → IsLeastRow {A = DraftProgram} (Err fault) (program_of theory form).rows → FormAnswers (Err (fault_of_theory fault)) form
program-refused form theory (reading.Refused code at) e l = of_program code at theory e l
program-refused form theory reading.Memory e l = tt

pub theory-refused : (form : Form) (fault : TheoryFault) → IsLeastRow {A = DraftTheory} (Err fault) (theory_of form).rows → FormAnswers (Err (fault_of_theory fault)) form
theory-refused form (reading.Refused code at) l = of_theory code at l
theory-refused form reading.Memory l = tt

pub bytes-read : (bytes : List ℕ) (form : Form) (result : Result Understood AgentFault) → Spells bytes form → IsAnswer bytes (Ok form) → FormAnswersWith result form → ReadsWith result bytes
bytes-read bytes form (Ok understood) s c a = record { form = form; bytes_spell = record { small = c.0; spelled = s }; form_spells = a }
bytes-read bytes form (Err (Refused code at)) s c a = of_form code at form (record { small = c.0; spelled = s }) a
bytes-read bytes form (Err Memory) s c a = tt

pub form-refused : (bytes : List ℕ) (fault : FormFault) → IsAnswer {A = Form} bytes (Err fault) → Reads (Err (fault_of_form fault)) bytes
form-refused bytes (form.Refused code at) c = of_bytes code at c
form-refused bytes form.Memory c = tt

-- a theory beside its agent
pub with-theory : (form : Form) (theory : DraftTheory) (agent : Agent) → (theory_of form).outcome ≡ Ok theory → FormSpells form agent → FormSpellsWith form theory agent
with-theory form theory agent e s = record { theory_read = e; form_spells = s }

-- an agent without its theory
pub without-theory : (bytes : List ℕ) (theory : DraftTheory) (agent : Agent) → SpellsWith bytes theory agent → SpellsAgent bytes agent
without-theory bytes theory agent s = record { form = s.form; bytes_spell = s.bytes_spell; form_spells = s.form_spells.form_spells }

-- conditions over the theory stay kept over the agent
pub stay-kept : (bytes : List ℕ) (result : Result Understood AgentFault) → ReadsWith result bytes → IfOk result (λ understood. CondsStayKept understood.theory understood.agent)
stay-kept bytes (Ok understood) s =
    asked bytes understood.agent (without-theory bytes understood.theory understood.agent s) s.form s.bytes_spell.spelled understood.theory s.form_spells.theory_read
stay-kept bytes (Err fault) s = tt
