-- What comes of a team: two journals, each of its own agent, that fit each other. (This project's own.)
use Rattle.std.specs.Prelude.{◌≡◌, ℕ, zero, suc, ◌==◌, Bool, true, if◌then◌else◌, ◌++◌, Contains, codes}
use Rattle.golog_tree.specs.declared.agent.Agent.{Agent}
use Rattle.golog_semantics.specs.declared.journal.Answer.{Answer}
use Rattle.golog_semantics.specs.declared.journal.Entry.TheVariants.{End}
use Rattle.golog_semantics.specs.declared.journal.Report.{Report}
use Rattle.golog_semantics.specs.Certain.{JournalIsSo}
use Rattle.golog_semantics.specs.Execution.{status_of}
use Rattle.golog_semantics.specs.InlineText.{report_of}
use Rattle.golog_semantics.specs.Journal.{Journal}
use Rattle.golog_semantics.specs.Online.{IsOnline}
use Rattle.golog_semantics.specs.Reports.{IsReport}
use Rattle.golog_semantics.specs.Restart.{journal_text}
use Rattle.golog_semantics.specs.Text.{Text}
use Rattle.golog_lead.specs.Waiting.{waits}
use Rattle.golog_team.specs.Linked.{IsLinked}
use Rattle.golog_team.specs.Notes.{Notes}
use Rattle.golog_team.specs.Played.{AreInTurn}
use Rattle.golog_commands.specs.declared.outcome.Input.{Input}
use Rattle.golog_commands.specs.declared.outcome.Input.TheVariants.{First, Second}
use Rattle.golog_commands.specs.Inputs.{line}

-- Each report is of an online execution of its agent's program. There is one list of notes that both journals fit: what
-- one sent is what the other was told, in order. With `inline` both came of steps in turn.
pub record AreTeamReports (first second : Agent) (inline : Bool) (one other : Report) : Type 0 where
  pub journal : Journal
  pub their_journal : Journal
  pub is : (one ≡ report_of first journal) × (other ≡ report_of second their_journal)
  pub fits : IsReport first one × IsReport second other
  pub online : IsOnline first one × IsOnline second other
  pub so : JournalIsSo first one.entries × JournalIsSo second other.entries
  pub notes : Notes
  pub linked : IsLinked first second 0 (waits first) notes journal
  pub their_linked : IsLinked second first 1 (waits second) notes their_journal
  pub in_turn : inline ≡ true → AreInTurn first second (waits first) (waits second) notes journal their_journal

-- the texts of both, each behind a line that tells whose it is
abbrev pub both_texts : Text → Text → Text
both_texts one other = line (codes "first") ++ (one ++ (line (codes "second") ++ other))

-- the text is that of two such journals, which end so
pub record IsTeamOf (first second : Agent) (inline : Bool) (text : Text) (one other : Answer) : Type 0 where
  pub report : Report
  pub their_report : Report
  pub reports : AreTeamReports first second inline report their_report
  pub is : text ≡ both_texts (journal_text first report) (journal_text second their_report)
  pub ends : Contains report.entries (End one) × Contains their_report.entries (End other)

-- the status of the first end, or where that is done, of the second
abbrev pub team_status : Answer → Answer → ℕ
team_status one other = if status_of one == 0 then status_of other else status_of one

-- which of the two files a refusal is of
abbrev pub team_input : ℕ → Input
team_input zero = First
team_input (suc side) = Second
