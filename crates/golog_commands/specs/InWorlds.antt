-- What a run that was printed says of each world. (This project's own.)
use Rattle.std.specs.Prelude.{ℕ, ⊤, Option, None, Some}
use Rattle.golog_tree.specs.declared.agent.Agent.{Agent}
use Rattle.golog_semantics.specs.declared.journal.Report.{Report}
use Rattle.golog_semantics.specs.Certain.{JournalIsSo}
use Rattle.golog_semantics.specs.Journal.{Journal}
use Rattle.golog_semantics.specs.Reports.{SpellsReport}
use Rattle.golog_semantics.specs.Restart.{started}
use Rattle.golog_semantics.specs.Text.{Text}
use Rattle.golog_branch.specs.PlanJournals.{IsPlannedJournal}
use Rattle.golog_branch.specs.PlansInWorlds.{PlansAreSo}
use Rattle.golog_plan.specs.PlanTexts.{plan_text}
use Rattle.golog_words.specs.Commands.{CommandLine, run, check, replay, ask, migrate, demo, team, plan}
use Rattle.golog_commands.specs.Exact.{IsRunStatus, Writes}
use Rattle.golog_commands.specs.Inputs.{ReadsAgent, ReadsStart}
use Rattle.golog_commands.specs.Outcome.{Outside}

-- the agent file spells an agent, the run began from the start that the journal file leaves, where there is one, and
-- the journal that was written is so in each world that agrees with the entries before it
pub record PrintsWhatIsSo (before after : Outside) (name : Text) (from : Option Text) : Type 0 where
  pub agent : Agent
  pub reads : ReadsAgent before.held name agent
  pub text : Text
  pub report : Report
  pub begun : ReadsStart before.held agent from report.start
  pub spelled : SpellsReport agent text report
  pub written : Writes before after text
  pub so : JournalIsSo (started agent report.start) report.entries

-- the agent file spells an agent, and the journal that was written is one of its program that follows plans, and is so
-- in each world that agrees with the entries before it
pub record PrintsPlans (before after : Outside) (name : Text) (depth fuel : ℕ) : Type 0 where
  pub agent : Agent
  pub reads : ReadsAgent before.held name agent
  pub journal : Journal
  pub planned : IsPlannedJournal agent depth fuel journal
  pub written : Writes before after (plan_text agent depth fuel journal)
  pub so : PlansAreSo agent depth fuel journal

-- the words are a command, and of a run, planned or not, the journal that was written is so
abbrev pub PrintsSo : Option CommandLine → Outside → Outside → Type 0
PrintsSo None before after = ⊥
PrintsSo (Some (run agent devices inline from workers)) before after = PrintsWhatIsSo before after agent from
PrintsSo (Some (check agent)) before after = ⊤
PrintsSo (Some (replay agent journal)) before after = ⊤
PrintsSo (Some (ask agent journal condition)) before after = ⊤
PrintsSo (Some (migrate agent journal)) before after = ⊤
PrintsSo (Some (demo size)) before after = ⊤
PrintsSo (Some (team first second inline)) before after = ⊤
PrintsSo (Some (plan depth fuel agent devices inline)) before after = PrintsPlans before after agent depth fuel

-- so it is where the status is that of a run
abbrev pub RunsAreSo : ℕ → Option CommandLine → Outside → Outside → Type 0
RunsAreSo status spelled before after = IsRunStatus status → PrintsSo spelled before after
