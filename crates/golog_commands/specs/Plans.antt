-- What comes of a program that follows plans: the journal of one, with each new plan in the line of its first step.
-- (This project's own.)
use Rattle.std.specs.Prelude.{◌≡◌, ℕ, Bool, true, None, List, []}
use Rattle.golog_tree.specs.declared.agent.Agent.{Agent}
use Rattle.golog_semantics.specs.declared.journal.Report.{Report}
use Rattle.golog_semantics.specs.Dealt.{Script}
use Rattle.golog_semantics.specs.Execution.{Ends}
use Rattle.golog_semantics.specs.Journal.{Journal}
use Rattle.golog_semantics.specs.Reports.{IsReport}
use Rattle.golog_semantics.specs.Text.{Text}
use Rattle.golog_branch.specs.PlanJournals.{IsPlannedJournal}
use Rattle.golog_branch.specs.PlansInWorlds.{PlansAreSo}
use Rattle.golog_plan.specs.PlanTexts.{plan_text}
use Rattle.golog_plan.specs.PlanLeads.{IsStarved, plan_lead}
use Rattle.golog_device.specs.Slots.{Standing}
use Rattle.golog_lead.specs.Rounds.{FollowsRounds}
use Rattle.golog_commands.specs.Runs.{AllTellLeft, AreDealtWith}

-- the report of a journal in whose lines no runs stand, from the agent's own start values
abbrev pub plain_report : Journal → Report
plain_report journal = record { entries = journal; runs = []; start = None }

-- The journal is one of the agent's program that follows plans of this depth, whose searches have this fuel, and each of
-- its entries has a text. Each device was dealt with, with its script. Where the run is one without threads, and all devices tell what is left of their
-- scripts, it is the journal of the rounds, and ends early only for want of memory.
pub record IsPlannedOf (agent : Agent) (depth fuel : ℕ) (scripts : List Script) (inline : Bool)
    (olds news : List Standing) (journal : Journal) : Type 0 where
  pub planned : IsPlannedJournal agent depth fuel journal
  pub fits : IsReport agent (plain_report journal)
  pub dealt : AreDealtWith agent scripts journal olds news
  pub scripted : inline ≡ true → AllTellLeft agent olds
      → FollowsRounds (plan_lead agent depth fuel) IsStarved agent scripts [] journal

-- The text is that of such a journal, and the status that of its end. In each world that agrees with the entries before
-- it, each entry is so: a step is a step of the program left, which may end where the journal says done, and a plan that
-- is begun leads to an end.
pub record IsPlannedRunOf (agent : Agent) (depth fuel : ℕ) (scripts : List Script) (inline : Bool)
    (olds news : List Standing) (text : Text) (status : ℕ) : Type 0 where
  pub journal : Journal
  pub is : text ≡ plan_text agent depth fuel journal
  pub run : IsPlannedOf agent depth fuel scripts inline olds news journal
  pub so : PlansAreSo agent depth fuel journal
  pub ended : Ends journal status
