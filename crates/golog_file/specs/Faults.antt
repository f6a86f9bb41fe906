-- The faults of the stages, as faults of the whole, and what is answered where there may be a fault.
use Rattle.std.specs.Prelude.{ℕ, Option, Some, None, Result, Ok, Err}
use Rattle.golog_rows.specs.Answers.{IfRefused}
use Rattle.golog_form.specs.declared.fault.FormFault.{FormFault}
use Rattle.golog_form.specs.declared.fault.FormFault.TheVariants as form
use Rattle.golog_theory.specs.declared.fault.TheoryFault.{TheoryFault}
use Rattle.golog_theory.specs.declared.fault.TheoryFault.TheVariants as theory
use Rattle.golog_check.specs.declared.fault.CheckFault.{CheckFault}
use Rattle.golog_check.specs.declared.fault.CheckFault.TheVariants as check
use Rattle.golog_file.specs.declared.fault.AgentFault.{AgentFault}
use Rattle.golog_file.specs.declared.fault.AgentFault.TheVariants.{Refused, Memory}
use Rattle.golog_file.specs.declared.fault.CondFault.{CondFault}
use Rattle.golog_file.specs.declared.fault.CondFault.TheVariants as cond

abbrev pub fault_of_form : FormFault → AgentFault
fault_of_form (form.Refused code at) = Refused code at
fault_of_form form.Memory = Memory

abbrev pub fault_of_theory : TheoryFault → AgentFault
fault_of_theory (theory.Refused code at) = Refused code at
fault_of_theory theory.Memory = Memory

abbrev pub fault_of_check : CheckFault → AgentFault
fault_of_check (check.Refused code at) = Refused code at
fault_of_check check.Memory = Memory

-- the same of a condition
abbrev pub cond_fault_of_form : FormFault → CondFault
cond_fault_of_form (form.Refused code at) = cond.Refused code at
cond_fault_of_form form.Memory = cond.Memory

abbrev pub cond_fault_of_theory : TheoryFault → CondFault
cond_fault_of_theory (theory.Refused code at) = cond.Refused code at
cond_fault_of_theory theory.Memory = cond.Memory

abbrev pub cond_fault_of_check : CheckFault → CondFault
cond_fault_of_check (check.Refused code at) = cond.Refused code at
cond_fault_of_check check.Memory = cond.Memory

-- the code and the place of a refusal
abbrev pub agent_code_at : AgentFault → Option (ℕ × ℕ)
agent_code_at (Refused code at) = Some (code, at)
agent_code_at Memory = None

-- the same of a condition
abbrev pub cond_code_at : CondFault → Option (ℕ × ℕ)
cond_code_at (cond.Refused code at) = Some (code, at)
cond_code_at cond.Memory = None

-- What is answered is spelled, or is a refusal with such a code and place, unless memory ran out.
abbrev pub AnswersBy : {A F : Type 0} → (F → Option (ℕ × ℕ)) → (A → Type 0) → (ℕ → ℕ → Type 0)
    → Result A F → Type 0
AnswersBy code_at Spells Refuses (Ok x) = Spells x
AnswersBy code_at Spells Refuses (Err fault) = IfRefused (code_at fault) Refuses
