-- What certain means: certain steps are steps of each world in which all is so that is known.
use Rattle.std.specs.Prelude.{◌≡◌, ℕ, IsTrue, Contains, length}
use Rattle.golog_tree.specs.declared.agent.Agent.{Agent}
use Rattle.golog_tree.specs.declared.prog.Label.{Label}
use Rattle.golog_tree.specs.declared.prog.Prog.{Prog}
use Rattle.golog_tree.specs.declared.prog.Prog.TheVariants as prog
use Rattle.golog_semantics.specs.declared.Mode.TheVariants.{Must, May}
use Rattle.golog_semantics.specs.declared.search.Move.{Move}
use Rattle.golog_semantics.specs.Truth.{Values}
use Rattle.golog_semantics.specs.Values.{after}
use Rattle.golog_semantics.specs.Guarded.{IsGuarded}
use Rattle.golog_semantics.specs.Search.{Run, final}
use Rattle.golog_semantics.specs.Moves.{plain_moves}
use Rattle.golog_semantics.specs.Blocks.{block_moves, goes_through}
use Rattle.golog_semantics.specs.Trans.{FinalW, Leads, LeadsIn, PlainTrans}
use Rattle.golog_semantics.specs.World.{Refines}

module _ (agent : Agent) (values world : Values) (p : Prog) where
  -- a step that may be taken, with this label and this program left
  pub record MayStep (label : Label) (left : Prog) : Type 0 where
    pub step : Move
    pub among : Contains (plain_moves agent values May p) step
    pub label_same : step.label ≡ label
    pub left_same : step.left ≡ left

  -- a certain step is a step of the world, and each step of the world may be taken; so it is with ends
  pub record StepsAreSo : Type 0 where
    pub certain :
        (step : Move) → Contains (plain_moves agent values Must p) step
        → PlainTrans agent world p step.label step.left
    pub possible : (label : Label) (left : Prog) → PlainTrans agent world p label left → MayStep label left
    pub certain_end : IsTrue (final agent values Must p) → FinalW agent world p
    pub possible_end : FinalW agent world p → IsTrue (final agent values May p)

-- in each world in which all is so that is known
abbrev pub PlainStepsAreSo : Type 0
PlainStepsAreSo =
    (agent : Agent) → IsGuarded agent → (values world : Values) → Refines values world → (p : Prog)
    → StepsAreSo agent values world p

-- a run that goes through leads to an end in each such world, step by step
abbrev pub RunsLead : Type 0
RunsLead =
    (agent : Agent) → IsGuarded agent → (values world : Values) → Refines values world
    → (p : Prog) (run : Run) → IsTrue (goes_through agent p run values) → LeadsIn agent (length run) p world

-- a step of a search block that the world allows: a step of its body, after which the body can still end
pub record BlockStepIsSo
    (agent : Agent) (world : Values) (depth fuel : ℕ) (body : Prog) (step : Move) : Type 0 where
  pub next : Prog
  pub rest : Run
  pub left_is : step.left ≡ prog.Follow depth fuel next rest
  pub taken : PlainTrans agent world body step.label next
  pub leads : Leads agent next (after agent world step.label)

-- the certain step of a search block is so in each such world
abbrev pub CertainBlocksAreSo : Type 0
CertainBlocksAreSo =
    (agent : Agent) → IsGuarded agent → (values world : Values) → Refines values world
    → (depth fuel : ℕ) (body : Prog) (rest : Run)
    → (step : Move) → Contains (block_moves agent values Must depth fuel body rest) step
    → BlockStepIsSo agent world depth fuel body step
