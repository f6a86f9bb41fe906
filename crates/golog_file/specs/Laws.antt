-- Laws of agents that are read.
use Rattle.std.specs.Prelude.{◌≡◌, ℕ, List, Ok}
use Rattle.golog_form.specs.declared.form.Form.{Form}
use Rattle.golog_form.specs.Spelling.{Spells}
use Rattle.golog_tree.specs.declared.agent.Agent.{Agent}
use Rattle.golog_tree.specs.declared.cond.Cond.{Cond}
use Rattle.golog_tree.specs.declared.draft.DraftTheory.{DraftTheory}
use Rattle.golog_tree.specs.declared.draft.DraftProgram.{DraftProgram}
use Rattle.golog_tree.specs.declared.draft_cond.DraftCond.{DraftCond}
use Rattle.golog_draft.specs.Drafts.{signature, agent_signature, CondKeeps, AgentCondKeeps}
use Rattle.golog_semantics.specs.ReportLaws.{RangesFit}
use Rattle.golog_theory.specs.Items.{theory_of}
use Rattle.golog_check.specs.Check.{Checks}
use Rattle.golog_file.specs.Spelled.{SpellsAgent, IsFirstRefusal}
use Rattle.golog_file.specs.Conditions.{SpellsCond, RefusesCond}

-- bytes that spell an agent have no first refusal
abbrev pub SpelledIsUnrefused : Type 0
SpelledIsUnrefused =
    (bytes : List ℕ) (agent : Agent) → SpellsAgent bytes agent → (code at : ℕ) → ¬ IsFirstRefusal bytes code at

-- bytes spell one agent at most
abbrev pub OneAgentIsSpelled : Type 0
OneAgentIsSpelled =
    (bytes : List ℕ) (one other : Agent) → SpellsAgent bytes one → SpellsAgent bytes other → one ≡ other

-- the agent of a theory has as many sorts as the theory, and its fluents have as many arguments
abbrev pub SignatureStays : Type 0
SignatureStays =
    (theory : DraftTheory) (program : DraftProgram) (agent : Agent) → Checks (Ok agent) theory program
    → agent_signature agent ≡ signature theory

-- a condition that keeps the rules over the theory keeps them over the agent
abbrev pub ConditionsStayKept : Type 0
ConditionsStayKept =
    (theory : DraftTheory) (program : DraftProgram) (agent : Agent) → Checks (Ok agent) theory program
    → (cond : DraftCond) → CondKeeps theory cond → AgentCondKeeps agent cond

-- A condition that keeps the rules over the theory of the form that bytes spell keeps them over the agent that
-- they spell.
abbrev pub ReadConditionsStayKept : Type 0
ReadConditionsStayKept =
    (bytes : List ℕ) (agent : Agent) → SpellsAgent bytes agent → (form : Form) → Spells bytes form
    → (theory : DraftTheory) → (theory_of form).outcome ≡ Ok theory
    → (cond : DraftCond) → CondKeeps theory cond → AgentCondKeeps agent cond

-- The ends of the sorts of whole numbers of an agent that bytes spell are in the range of their type.
abbrev pub RangesOfAgentsFit : Type 0
RangesOfAgentsFit = (bytes : List ℕ) (agent : Agent) → SpellsAgent bytes agent → RangesFit agent

-- bytes that spell a condition have no first refusal
abbrev pub SpelledCondIsUnrefused : Type 0
SpelledCondIsUnrefused =
    (theory : DraftTheory) (agent : Agent) (bytes : List ℕ) (cond : Cond) → SpellsCond theory agent bytes cond
    → (code at : ℕ) → ¬ RefusesCond theory agent bytes code at

-- bytes spell one condition at most
abbrev pub OneCondIsSpelled : Type 0
OneCondIsSpelled =
    (theory : DraftTheory) (agent : Agent) (bytes : List ℕ) (one other : Cond)
    → SpellsCond theory agent bytes one → SpellsCond theory agent bytes other → one ≡ other
