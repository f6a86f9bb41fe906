-- What a reader of conditions answers, stage by stage.
use Rattle.std.proofs.Common.{◌≡◌, ℕ, List, [], Result, Ok, Err}
use Rattle.golog_form.specs.declared.form.Form.{Form}
use Rattle.golog_form.specs.declared.fault.FormFault.{FormFault}
use Rattle.golog_form.specs.declared.fault.FormFault.TheVariants as form
use Rattle.golog_form.specs.Spelling.{Spells}
use Rattle.golog_form.specs.Faults.{IsAnswer}
use Rattle.golog_tree.specs.declared.agent.Agent.{Agent}
use Rattle.golog_tree.specs.declared.cond.Cond.{Cond}
use Rattle.golog_tree.specs.declared.draft.DraftTheory.{DraftTheory}
use Rattle.golog_tree.specs.declared.draft_cond.DraftCond.{DraftCond}
use Rattle.golog_theory.specs.declared.fault.TheoryFault.{TheoryFault}
use Rattle.golog_theory.specs.declared.fault.TheoryFault.TheVariants as reading
use Rattle.golog_theory.specs.Conditions.{cond_of}
use Rattle.golog_theory.specs.Order.{IsLeastRow}
use Rattle.golog_check.specs.declared.fault.CheckFault.{CheckFault}
use Rattle.golog_check.specs.declared.fault.CheckFault.TheVariants as check
use Rattle.golog_check.specs.DeclaredItems.{declared_in}
use Rattle.golog_check.specs.Conditions.{cond_in}
use Rattle.golog_check.specs.Order.{IsLeastRow as IsLeastChecked}
use Rattle.golog_file.specs.declared.fault.CondFault.{CondFault}
use Rattle.golog_file.specs.declared.fault.CondFault.TheVariants.{Refused, Memory}
use Rattle.golog_file.specs.Faults.{cond_fault_of_form, cond_fault_of_theory, cond_fault_of_check}
use Rattle.golog_file.specs.Conditions.{of_draft, of_check, FormAnswersCond, of_bytes, of_form, ReadsCond}

module _ (theory : DraftTheory) (agent : Agent) where
  pub check-refused : (form : Form) (draft : DraftCond) (fault : CheckFault) → (cond_of theory form 0).outcome ≡ Ok draft
      → IsLeastChecked {A = Cond} (Err fault) (cond_in (declared_in agent) draft []).rows
      → FormAnswersCond theory agent (Err (cond_fault_of_check fault)) form
  check-refused form draft (check.Refused code at) e l = of_check code at draft e l
  check-refused form draft check.Memory e l = tt

  pub draft-refused : (form : Form) (fault : TheoryFault) → IsLeastRow {A = DraftCond} (Err fault) (cond_of theory form 0).rows
      → FormAnswersCond theory agent (Err (cond_fault_of_theory fault)) form
  draft-refused form (reading.Refused code at) l = of_draft code at l
  draft-refused form reading.Memory l = tt

  pub bytes-read : (bytes : List ℕ) (form : Form) (result : Result Cond CondFault) → Spells bytes form → IsAnswer bytes (Ok form)
      → FormAnswersCond theory agent result form → ReadsCond theory agent result bytes
  bytes-read bytes form (Ok cond) s c a = record { form = form; bytes_spell = record { small = c.0; spelled = s }; form_spells = a }
  bytes-read bytes form (Err (Refused code at)) s c a = of_form code at form (record { small = c.0; spelled = s }) a
  bytes-read bytes form (Err Memory) s c a = tt

  pub form-refused : (bytes : List ℕ) (fault : FormFault) → IsAnswer {A = Form} bytes (Err fault) → ReadsCond theory agent (Err (cond_fault_of_form fault)) bytes
  form-refused bytes (form.Refused code at) c = of_bytes code at c
  form-refused bytes form.Memory c = tt
