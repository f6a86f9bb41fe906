-- Runs each of which begins from the journal of the one before. (This project's own.)
use Rattle.std.specs.Prelude.{◌≡◌, ℕ, ⊤, Option, Some, List, [], ◌∷◌, Ok}
use Rattle.golog_tree.specs.declared.agent.Agent.{Agent}
use Rattle.golog_semantics.specs.declared.journal.Answer.{Answer}
use Rattle.golog_semantics.specs.declared.journal.Report.{Report}
use Rattle.golog_semantics.specs.declared.journal.Verdict.TheVariants.{Online}
use Rattle.golog_semantics.specs.Execution.{IsOnlineRun}
use Rattle.golog_semantics.specs.ReportLaws.{TellsApart}
use Rattle.golog_semantics.specs.Restart.{started, values_left}
use Rattle.golog_semantics.specs.Text.{Text}
use Rattle.golog_semantics.specs.Truth.{Values}
use Rattle.golog_semantics.specs.Verdicts.{VerdictIs}
use Rattle.golog_semantics.specs.WellFormed.{WellFormed}
use Rattle.golog_reports.specs.Reads.{journal_of}

-- the text is that of an online execution of the agent from this start
pub record IsLink (agent : Agent) (start : Option Values) (text : Text) : Type 0 where
  pub status : ℕ
  pub run : IsOnlineRun agent start text status

-- so is the first of these texts, and each other is one from the values that the text before it leaves
abbrev pub IsChain : Agent → Option Values → List Text → Type 0
IsChain agent start [] = ⊤
IsChain agent start (text ∷ texts) =
    (link : IsLink agent start text) × IsChain agent (Some (values_left agent link.run.report)) texts

-- the text is read as a journal with this start, and a replay finds it online
pub record ReplaysFrom (agent : Agent) (start : Option Values) (text : Text) : Type 0 where
  pub report : Report
  pub said : (journal_of agent text).outcome ≡ Ok report
  pub begun : report.start ≡ start
  pub answer : Answer
  pub online : VerdictIs (started agent report.start) text report (Online answer)

-- so it is of the first of these texts, and of each other with the values that the text before it leaves
abbrev pub EachReplays : Agent → Option Values → List Text → Type 0
EachReplays agent start [] = ⊤
EachReplays agent start (text ∷ texts) =
    (link : ReplaysFrom agent start text) × EachReplays agent (Some (values_left agent link.report)) texts

-- each text of such a chain replays online, however long it is
abbrev pub ChainsReplay : Type 0
ChainsReplay =
    (agent : Agent) → WellFormed agent → TellsApart agent → (start : Option Values) (texts : List Text)
    → IsChain agent start texts → EachReplays agent start texts
