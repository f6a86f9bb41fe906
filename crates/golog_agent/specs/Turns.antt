-- What comes of a turn of a runner.
use Rattle.std.specs.Prelude.{◌≡◌, ◌⊎◌, Option, Some, false, IsTrue}
use Rattle.golog_tree.specs.declared.agent.Agent.{Agent}
use Rattle.golog_semantics.specs.declared.journal.Answer.{Answer}
use Rattle.golog_semantics.specs.declared.journal.Answer.TheVariants.{Fuel, Memory}
use Rattle.golog_semantics.specs.Heavy.{heavy}
use Rattle.golog_semantics.specs.Journal.{Journal, is_full, is_settled}
use Rattle.golog_semantics.specs.Progress.{values_after, left_after}
use Rattle.golog_semantics.specs.Answer.{answer_after, is_unanswered}
use Rattle.golog_journal.specs.Growing.{Sight}
use Rattle.golog_lead.specs.declared.stepped.Stepped.{Stepped}
use Rattle.golog_lead.specs.Seeing as seeing
use Rattle.golog_lead.specs.Waiting.{waits}

-- the fuel of a search block was wanted: the program is heavy and waits for no result, and the journal is not full
pub record LacksFuel (agent : Agent) (journal : Journal) (answer : Answer) : Type 0 where
  pub is : answer ≡ Fuel
  pub not_full : is_full journal ≡ false
  pub answered : is_unanswered agent journal ≡ false
  pub settled : IsTrue (is_settled agent journal)
  pub weighs : IsTrue (heavy agent (values_after agent journal) (left_after agent journal))

-- the answer is that of the program where memory or fuel was wanted, or after all entries before
abbrev pub MayAnswer : Agent → Journal → Answer → Type 0
MayAnswer agent journal answer =
    (answer ≡ Memory) ⊎ (LacksFuel agent journal answer ⊎ (answer_after agent journal ≡ Some answer))

-- nothing was committed, and at all that was seen the program waits for a device
abbrev pub StillWaits : Sight → Sight → Type 0
StillWaits = seeing.StillWaits waits

-- the end was committed
abbrev pub CommitsEnd : Answer → Sight → Sight → Type 0
CommitsEnd = seeing.CommitsEnd MayAnswer

-- what came of a turn
abbrev pub TurnIs : Sight → Sight → Stepped → Type 0
TurnIs = seeing.TurnIs waits MayAnswer

-- what came of an attempt
abbrev pub AttemptIs : Sight → Sight → Option Stepped → Type 0
AttemptIs = seeing.AttemptIs waits MayAnswer
