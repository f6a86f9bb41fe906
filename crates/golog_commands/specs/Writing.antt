-- What the parts of a call write of what they come to.
use Rattle.std.specs.Prelude.{◌≡◌, ◌⊎◌, ℕ, ◌++◌, Option, Result, Ok, Err, Contains}
use Rattle.golog_base.specs.Known.{and_then_bytes}
use Rattle.golog_tree.specs.declared.agent.Agent.{Agent}
use Rattle.golog_semantics.specs.declared.journal.Answer.{Answer}
use Rattle.golog_semantics.specs.declared.journal.Entry.TheVariants.{End}
use Rattle.golog_semantics.specs.declared.journal.Report.{Report}
use Rattle.golog_semantics.specs.Execution.{status_of as answer_status}
use Rattle.golog_semantics.specs.Journal.{Journal}
use Rattle.golog_semantics.specs.Text.{Text, report_text}
use Rattle.golog_commands.specs.declared.outcome.Outcome.{Outcome}
use Rattle.golog_commands.specs.declared.ready.Unready.{Unready}
use Rattle.golog_commands.specs.declared.ready.Unready.TheVariants.{Ended, Memory}
use Rattle.golog_commands.specs.Outcome.{Reports, outcome_status, outcome_text}

-- nothing was written, and no write failed
abbrev pub WritesNothing : Option Text → Option Text → ℕ → ℕ → Type 0
WritesNothing old new faults_before faults_after = (new ≡ old) × (faults_after ≡ faults_before)

-- what an outcome says was reported; without one nothing was written
abbrev pub IfReported : {E F : Type 0} → Result Outcome E → Result ℕ F → Option Text → Option Text → ℕ → ℕ → Type 0
IfReported (Ok outcome) (Ok status) old new faults_before faults_after =
    Reports status (outcome_text outcome) (outcome_status outcome) old new faults_before faults_after
IfReported (Err e) (Err f) old new faults_before faults_after = WritesNothing old new faults_before faults_after
IfReported (Ok outcome) (Err f) old new faults_before faults_after = ⊥
IfReported (Err e) (Ok status) old new faults_before faults_after = ⊥

-- the same of why an input holds nothing
abbrev pub ReportsUnready : {F : Type 0} → Unready → Result ℕ F → Option Text → Option Text → ℕ → ℕ → Type 0
ReportsUnready (Ended outcome) (Ok status) old new faults_before faults_after =
    Reports status (outcome_text outcome) (outcome_status outcome) old new faults_before faults_after
ReportsUnready Memory (Err f) old new faults_before faults_after = WritesNothing old new faults_before faults_after
ReportsUnready (Ended outcome) (Err f) old new faults_before faults_after = ⊥
ReportsUnready Memory (Ok status) old new faults_before faults_after = ⊥

-- nothing was written, or the head alone, and no write failed
abbrev pub WritesHead : Text → Option Text → Option Text → ℕ → ℕ → Type 0
WritesHead head old new faults_before faults_after =
    ((new ≡ old) ⊎ (new ≡ and_then_bytes old head)) × (faults_after ≡ faults_before)

-- The head and behind it a report of which this is so were written: the text whole, and the status is that of the
-- report's end; or a write failed, the status is that of a fault, and a prefix of the text was written.
pub record WritesReport (P : Report → Type 0) (agent : Agent) (head : Text) (old new : Option Text)
    (faults_before faults_after status : ℕ) : Type 0 where
  pub report : Report
  pub so : P report
  pub answer : Answer
  pub ended : Contains report.entries (End answer)
  pub written : Reports status (head ++ report_text agent report) (answer_status answer)
      old new faults_before faults_after

-- The same of a journal by what is its text.
pub record WritesJournal (P : Journal → Type 0) (text : Journal → Text) (old new : Option Text)
    (faults_before faults_after status : ℕ) : Type 0 where
  pub journal : Journal
  pub so : P journal
  pub answer : Answer
  pub ended : Contains journal (End answer)
  pub written : Reports status (text journal) (answer_status answer) old new faults_before faults_after
