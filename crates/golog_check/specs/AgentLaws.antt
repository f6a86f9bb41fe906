-- The agent of a draft of which nothing is refused, and which procedures reach themselves.
use Rattle.std.specs.Prelude.{◌≡◌, ℕ, true, [], ◌↔◌}
use Rattle.golog_tree.specs.declared.agent.Agent.{Agent}
use Rattle.golog_tree.specs.declared.draft.DraftTheory.{DraftTheory}
use Rattle.golog_tree.specs.declared.draft.DraftProgram.{DraftProgram}
use Rattle.golog_draft.specs.Drafts.{TheoryKeeps, ProgramKeeps}
use Rattle.golog_semantics.specs.FrontCalls.{Reaches}
use Rattle.golog_semantics.specs.WellFormed.{WellFormed}
use Rattle.golog_check.specs.Check.{all_refusals, agent_of}
use Rattle.golog_shapes.specs.Unguarded.{is_unguarded}

-- A procedure is refused as unguarded exactly where it reaches itself without a step.
abbrev pub UnguardedIsReached : Type 0
UnguardedIsReached = (agent : Agent) (item : ℕ) → (is_unguarded agent item ≡ true) ↔ Reaches agent item item

abbrev pub AgentsFit : Type 0
AgentsFit =
    (theory : DraftTheory) (program : DraftProgram) → TheoryKeeps theory → ProgramKeeps theory program
    → all_refusals theory program ≡ [] → WellFormed (agent_of theory program)
