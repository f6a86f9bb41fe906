-- What the journal of a program that follows plans says of each world that agrees with it.
--
-- That a plan is followed by what is sensed, and leads to an end whatever that is, is De Giacomo and Levesque's (1999),
-- of the published Trans and Final (ConGolog 2000).
use Rattle.std.specs.Prelude.{◌≡◌, ℕ, IsTrue, not, Some, [], ◌∷◌, ◌++◌}
use Rattle.golog_tree.specs.declared.agent.Agent.{Agent}
use Rattle.golog_tree.specs.declared.prog.Label.{Label}
use Rattle.golog_semantics.specs.declared.journal.Answer.TheVariants as answer
use Rattle.golog_semantics.specs.declared.journal.Entry.{Entry}
use Rattle.golog_semantics.specs.declared.journal.Entry.TheVariants as entry
use Rattle.golog_semantics.specs.BlockFree.{has_block}
use Rattle.golog_semantics.specs.Journal.{Journal}
use Rattle.golog_semantics.specs.Online.{label_of}
use Rattle.golog_semantics.specs.Trans.{FinalW, TransW}
use Rattle.golog_semantics.specs.Truth.{Values}
use Rattle.golog_semantics.specs.WellFormed.{WellFormed}
use Rattle.golog_semantics.specs.World.{Agrees, IsWorld, world_after}
use Rattle.golog_branch.specs.declared.tree.Tree.{Tree}
use Rattle.golog_branch.specs.Following.{kept_after}
use Rattle.golog_branch.specs.PlanJournals.{IsPlannedSoFar, plan_begun}
use Rattle.golog_branch.specs.TreesInWorlds.{LeadsWithin}

module _ (agent : Agent) (depth fuel : ℕ) where
  -- what an entry says of a world that agrees with the entries before it: a step is one of the program left there, the
  -- program may end where the journal says done, and a plan that is begun leads to an end
  pub record PlannedIsSo (before : Journal) (e : Entry) (world : Values) : Type 0 where
    pub step : (label : Label) → label_of e ≡ Some label
        → TransW agent world (kept_after agent depth fuel before).left label
        (kept_after agent depth fuel (before ++ e ∷ [])).left
    pub done : e ≡ entry.End answer.Done → FinalW agent world (kept_after agent depth fuel before).left
    pub plan : (t : Tree) → plan_begun agent depth fuel before e ≡ Some t
        → LeadsWithin agent depth t (kept_after agent depth fuel before).left world

  -- each entry of the journal is so in each world that agrees with the entries before it
  abbrev pub PlansAreSo : Journal → Type 0
  PlansAreSo journal =
      (before later : Journal) (e : Entry) (start : Values) → journal ≡ before ++ e ∷ later
      → IsWorld agent start → Agrees agent start before → PlannedIsSo before e (world_after agent start before)

-- so it is of each journal of a program that follows plans, which holds and reaches no search block
abbrev pub PlanJournalsAreSo : Type 0
PlanJournalsAreSo =
    (agent : Agent) → WellFormed agent → IsTrue (not (has_block agent agent.main)) → (depth fuel : ℕ) (journal : Journal)
    → IsPlannedSoFar agent depth fuel journal → PlansAreSo agent depth fuel journal
