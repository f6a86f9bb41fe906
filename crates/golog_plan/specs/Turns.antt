-- What comes of a turn of a scribe that follows plans.
use Rattle.std.specs.Prelude.{◌≡◌, ◌⊎◌, ℕ, Bool, Option, Some}
use Rattle.golog_tree.specs.declared.agent.Agent.{Agent}
use Rattle.golog_semantics.specs.declared.journal.Answer.{Answer}
use Rattle.golog_semantics.specs.declared.journal.Answer.TheVariants.{Memory}
use Rattle.golog_semantics.specs.Journal.{Journal}
use Rattle.golog_journal.specs.Growing.{Sight}
use Rattle.golog_lead.specs.declared.stepped.Stepped.{Stepped}
use Rattle.golog_lead.specs.Seeing as seeing
use Rattle.golog_branch.specs.PlanJournals.{plan_answer, plan_waits}

module _ (depth fuel : ℕ) where
  -- the program waits for a device
  abbrev pub does_wait : Agent → Journal → Bool
  does_wait agent = plan_waits agent depth fuel

  -- the answer is that after these entries, or memory was wanted
  abbrev pub MayAnswer : Agent → Journal → Answer → Type 0
  MayAnswer agent journal answer = (answer ≡ Memory) ⊎ (plan_answer agent depth fuel journal ≡ Some answer)

  -- what came of a turn
  abbrev pub TurnIs : Sight → Sight → Stepped → Type 0
  TurnIs = seeing.TurnIs does_wait MayAnswer

  -- what came of an attempt
  abbrev pub AttemptIs : Sight → Sight → Option Stepped → Type 0
  AttemptIs = seeing.AttemptIs does_wait MayAnswer
