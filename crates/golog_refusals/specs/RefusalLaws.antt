-- What `check` refuses says no well-formed agent, what it does not refuse says the agent that it gives, and no other.
use Rattle.std.specs.Prelude.{◌≡◌, ℕ, IsTrue, Ok, []}
use Rattle.golog_tree.specs.declared.agent.Agent.{Agent}
use Rattle.golog_tree.specs.declared.cond.Cond.{Cond}
use Rattle.golog_tree.specs.declared.draft.DraftTheory.{DraftTheory}
use Rattle.golog_tree.specs.declared.draft.DraftProgram.{DraftProgram}
use Rattle.golog_tree.specs.declared.draft_cond.DraftCond.{DraftCond}
use Rattle.golog_semantics.specs.Fits.{nothing_bound}
use Rattle.golog_semantics.specs.WellFormed.{WellFormed}
use Rattle.golog_draft.specs.Drafts.{TheoryKeeps, ProgramKeeps, AgentCondKeeps}
use Rattle.golog_rows.specs.Least.{IsAmong}
use Rattle.golog_check.specs.DeclaredItems.{declared_in}
use Rattle.golog_check.specs.Conditions.{cond_in}
use Rattle.golog_check.specs.CheckLaws.{IsCondOf}
use Rattle.golog_check.specs.Check.{all_refusals, agent_of}
use Rattle.golog_refusals.specs.Says.{cond_says}
use Rattle.golog_refusals.specs.SaysAgent.{Says}

-- A draft with a refusal, of whatever code and place, says no well-formed agent.
abbrev pub RefusedSaysNone : Type 0
RefusedSaysNone =
    (theory : DraftTheory) (program : DraftProgram) → TheoryKeeps theory → ProgramKeeps theory program
    → (code at : ℕ) → IsAmong (all_refusals theory program) code at → (agent : Agent)
    → Says theory program agent → ¬ WellFormed agent

-- The agent that `check` gives for a draft without a refusal is one that the draft says.
abbrev pub GivenIsSaid : Type 0
GivenIsSaid =
    (theory : DraftTheory) (program : DraftProgram) → TheoryKeeps theory → ProgramKeeps theory program
    → all_refusals theory program ≡ [] → Says theory program (agent_of theory program)

-- A draft says one well-formed agent at most: the one that `check` gives.
abbrev pub SaidIsGiven : Type 0
SaidIsGiven =
    (theory : DraftTheory) (program : DraftProgram) → TheoryKeeps theory → ProgramKeeps theory program
    → (agent : Agent) → Says theory program agent → WellFormed agent → agent ≡ agent_of theory program

-- a condition of the agent that a file can say, with no variable from outside
abbrev pub IsClosedCond : Agent → Cond → Type 0
IsClosedCond agent c = IsCondOf agent nothing_bound 0 c

-- A condition over a well-formed agent that is refused says no condition of the agent, and what it is taken for
-- otherwise it says.
pub record CondsSay (agent : Agent) (draft : DraftCond) : Type 0 where
  pub taken : (c : Cond) → IsTrue (cond_says (declared_in agent) draft [] c) → IsClosedCond agent c
      → (cond_in (declared_in agent) draft []).outcome ≡ Ok c
  pub said : (c : Cond) → (cond_in (declared_in agent) draft []).outcome ≡ Ok c
      → IsTrue (cond_says (declared_in agent) draft [] c)

abbrev pub CondsAreSaid : Type 0
CondsAreSaid = (agent : Agent) → WellFormed agent → (draft : DraftCond) → AgentCondKeeps agent draft
    → CondsSay agent draft
