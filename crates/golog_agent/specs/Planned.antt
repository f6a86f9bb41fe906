-- What the program is to do after the entries so far.
use Rattle.std.specs.Prelude.{◌≡◌, ◌<◌, ◌≤◌, false, IsTrue, List, ◌∷◌}
use Rattle.golog_tree.specs.declared.agent.Agent.{Agent}
use Rattle.golog_tree.specs.Nest.{nest}
use Rattle.golog_semantics.specs.declared.Mode.TheVariants.{Must}
use Rattle.golog_semantics.specs.declared.search.Move.{Move}
use Rattle.golog_semantics.specs.Search.{final, nest_limit}
use Rattle.golog_semantics.specs.Blocks.{moves}
use Rattle.golog_semantics.specs.Journal.{Journal, count, limit, is_settled}
use Rattle.golog_semantics.specs.Progress.{values_after, left_after}
use Rattle.golog_agent.specs.declared.plan.Plan.{Plan}
use Rattle.golog_agent.specs.declared.plan.Plan.TheVariants.{Wait, End, Step}
use Rattle.golog_lead.specs.Waiting.{waits}
use Rattle.golog_agent.specs.Turns.{MayAnswer}

module _ (agent : Agent) (journal : Journal) where
  -- the first certain step of a program that may go on with it
  pub record IsNextStep (step : Move) : Type 0 where
    pub settled : IsTrue (is_settled agent journal)
    pub not_final : final agent (values_after agent journal) Must (left_after agent journal) ≡ false
    pub room : count journal < limit
    pub others : List Move
    pub first : moves agent (values_after agent journal) Must (left_after agent journal) ≡ step ∷ others
    pub nests : nest step.left ≤ nest_limit

  abbrev pub PlanIs : Plan → Type 0
  PlanIs Wait = IsTrue (waits agent journal)
  PlanIs (End answer) = MayAnswer agent journal answer
  PlanIs (Step step) = IsNextStep step
