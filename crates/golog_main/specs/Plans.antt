-- What a run that follows plans makes of the journal and of the devices, and how it may end. (This project's own.)
use Rattle.std.specs.Prelude.{◌≡◌, ℕ, ◌≤◌, Bool, true, Option, Some, List, length}
use Rattle.golog_tree.specs.declared.agent.Agent.{Agent}
use Rattle.golog_semantics.specs.Dealt.{Meaning}
use Rattle.golog_semantics.specs.Journal.{Journal, longest}
use Rattle.golog_semantics.specs.Text.{Text}
use Rattle.golog_branch.specs.PlanJournals.{IsPlannedJournal}
use Rattle.golog_plan.specs.PlanLeads.{IsStarved, plan_lead}
use Rattle.golog_journal.specs.Boards.{IsBoardList}
use Rattle.golog_device.specs.Slots.{Standing}
use Rattle.golog_threads.specs.Driving.{RunsOverThreads}
use Rattle.golog_words.specs.Commands.{plan}
use Rattle.golog_commands.specs.Outcome.{CallEnds, Outside}
use Rattle.golog_main.specs.Runs.{FollowsLeft, HaveRun}

-- the journal is one of a program that follows plans, and a run has gone on to it from these entries
pub record PlansOn (agent : Agent) (depth fuel : ℕ) (inline : Bool) (before : Journal) (olds news : List Standing)
    (journal : Journal) : Type 0 where
  pub planned : IsPlannedJournal agent depth fuel journal
  pub lawful : IsBoardList agent journal
  pub short : length journal ≤ longest
  pub run : HaveRun agent before journal olds news
  pub scripted : inline ≡ true → FollowsLeft (plan_lead agent depth fuel) IsStarved agent before journal olds

-- the same of a run over threads of the agent's devices
pub record PlansServedOn {D : Type 0} (agent : Agent) (depth fuel : ℕ) (meaning : D → Meaning) (before : Journal)
    (olds news : List D) (journal : Journal) : Type 0 where
  pub planned : IsPlannedJournal agent depth fuel journal
  pub ran : RunsOverThreads agent meaning before journal olds news

-- no run that follows plans ends as stuck, or for what is unknown
abbrev pub PlansEndPlainly : Type 0
PlansEndPlainly =
    (depth fuel : ℕ) (name : Text) (devices : Option Text) (inline : Bool) (status : ℕ) (before after : Outside)
    → CallEnds status (Some (plan depth fuel name devices inline)) before after
    → (¬ (status ≡ 10)) × (¬ (status ≡ 11))
