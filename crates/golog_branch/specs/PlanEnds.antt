-- With which answers a program that follows plans ends. (This project's own.)
use Rattle.std.specs.Prelude.{ℕ, ⊤}
use Rattle.golog_tree.specs.declared.agent.Agent.{Agent}
use Rattle.golog_semantics.specs.declared.journal.Answer.{Answer}
use Rattle.golog_semantics.specs.declared.journal.Answer.TheVariants.{Stuck, Unknown}
use Rattle.golog_semantics.specs.declared.journal.Entry.TheVariants.{End}
use Rattle.golog_semantics.specs.Journal.{Journal}
use Rattle.golog_branch.specs.PlanJournals.{KeepsPlanned}

-- it ends neither as stuck nor for what is unknown
abbrev pub EndsPlainly : Answer → Type 0
EndsPlainly Stuck = ⊥
EndsPlainly Unknown = ⊥
EndsPlainly _ = ⊤

-- so it is wherever the end keeps the rules of plans
abbrev pub PlansEndPlainly : Type 0
PlansEndPlainly =
    (agent : Agent) (depth fuel : ℕ) (before : Journal) (a : Answer) → KeepsPlanned agent depth fuel before (End a) → EndsPlainly a
