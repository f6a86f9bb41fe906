-- What a run of an agent comes to.
use Rattle.std.specs.Prelude.{◌≡◌, ◌⊎◌, ℕ, Bool, true, ◌<◌, nat_lt, IsSome, IfSome, Option, Some, List, [], ◌∷◌, ◌++◌, Contains, length, map, codes, decimal, slice_get}
use Rattle.std.specs.List.{flat_map}
use Rattle.std.specs.Option.{option_map_or}
use Rattle.golog_tree.specs.declared.agent.Agent.{Agent}
use Rattle.golog_semantics.specs.declared.journal.Answer.{Answer}
use Rattle.golog_semantics.specs.declared.journal.Entry.TheVariants.{Close}
use Rattle.golog_semantics.specs.declared.journal.Reason.TheVariants.{Refused}
use Rattle.golog_semantics.specs.declared.journal.Report.{Report}
use Rattle.golog_semantics.specs.Journal.{Journal}
use Rattle.golog_semantics.specs.Restart.{started}
use Rattle.golog_semantics.specs.Text.{Text, answer_text, head_text, with_line_feed}
use Rattle.golog_semantics.specs.Truth.{Values}
use Rattle.golog_semantics.specs.Reports.{IsReport}
use Rattle.golog_semantics.specs.Online.{IsOnline}
use Rattle.golog_semantics.specs.Certain.{JournalIsSo}
use Rattle.golog_semantics.specs.Execution.{IsOnlineRun, Ends, status_of}
use Rattle.golog_semantics.specs.InlineText.{inline_report, inline_text, report_of}
use Rattle.golog_semantics.specs.Dealt.{Script, WasDealtWith}
use Rattle.golog_semantics.specs.Inline.{lead}
use Rattle.golog_journal.specs.Boards.{AgentJournal, IsBoardList}
use Rattle.golog_journal.specs.Leading.{IsBehind}
use Rattle.golog_device.specs.Devices.{HasBegun as DeviceBegins}
use Rattle.golog_device.specs.Scripts.{script_spelled}
use Rattle.golog_device.specs.Slots.{Standing, EachSlot, ChangesIf, HasAt, HaveBegun}
use Rattle.golog_lead.specs.Rounds.{AreReady, FollowsRounds}
use Rattle.golog_lead.specs.Short.{IsShort}

-- ---- the devices

-- what a device was given and told fits the journal, with its script; one that refused its script is as it
-- was
pub record IsDealt (agent : Agent) (scripts : List Script) (journal : Journal) (device : ℕ) (was is : Standing)
    : Type 0 where
  pub dealt : IfSome (slice_get scripts device) (λ script. WasDealtWith agent device journal script is.meaning)
  pub refused : Contains journal (Close device Refused 0) → is ≡ was

-- each device of the agent was dealt with, and the box that no device needs is as it was
abbrev pub AreDealtWith : Agent → List Script → Journal → List Standing → List Standing → Type 0
AreDealtWith agent scripts journal =
    EachSlot (λ slot. ChangesIf (nat_lt slot (length agent.devices)) (IsDealt agent scripts journal slot))

-- each device of the agent tells what is left of its script
abbrev pub AllTellLeft : Agent → List Standing → Type 0
AllTellLeft agent standings =
    (slot : ℕ) → slot < length agent.devices → HasAt standings slot (λ s. IsSome s.meaning.left)

-- a device is as it was, or has begun and was given and told nothing since
abbrev pub IsUnserved : Standing → Standing → Type 0
IsUnserved old new = (new ≡ old) ⊎ ((name : Text) × (text : Text) × DeviceBegins old.meaning new.meaning name text)

-- so is each device
abbrev pub AreUnserved : List Standing → List Standing → Type 0
AreUnserved olds news = EachSlot (λ slot. IsUnserved) olds news

-- ---- the text, where all devices tell what is left of their scripts

-- the head of a journal with this start, where it has one
abbrev pub head_of : Agent → Option Values → Text
head_of agent start = option_map_or (head_text agent) start []

-- the text is that of the rounds with these scripts, behind the head, and the status that of its end
pub record IsInline (agent : Agent) (start : Option Values) (scripts : List Script) (text : Text) (status : ℕ)
    : Type 0 where
  pub is : text ≡ head_of agent start ++ inline_text (started agent start) scripts
  pub ended : Ends (inline_report (started agent start) scripts).entries status

-- memory or fuel was wanted, and the lines behind the head and before the end are the first lines of the text of the
-- rounds
pub record IsCutShort (agent : Agent) (start : Option Values) (scripts : List Script) (text : Text) (status : ℕ)
    : Type 0 where
  pub before : List Text
  pub later : List Text
  pub closings : List Text
  pub whole : inline_text (started agent start) scripts ≡ flat_map (with_line_feed agent) (before ++ later)
  pub answer : Answer
  pub short : IsShort answer
  pub is : text ≡ head_of agent start ++ flat_map (with_line_feed agent)
      (before ++ (decimal (length before) ++ (codes " end " ++ answer_text answer)) ∷ closings)
  pub shown : status ≡ status_of answer

abbrev pub FollowsScripts : Agent → Option Values → List Script → Text → ℕ → Type 0
FollowsScripts agent start scripts text status =
    IsInline agent start scripts text status ⊎ IsCutShort agent start scripts text status

-- ---- a run

-- The text is that of an online execution of the agent's program from this start, or from the agent's own where there
-- is none, and the status that of its end. In each world that agrees with the entries before it, each entry is so: a
-- step is a step of the program left, which may end where the journal says done, and may neither step nor end where it
-- says stuck. Each device was dealt with, with its script. Where the run is one without threads, and all devices tell
-- what is left of their scripts, the text is that of the rounds.
pub record IsRunOf (agent : Agent) (start : Option Values) (scripts : List Script) (inline : Bool)
    (olds news : List Standing) (text : Text) (status : ℕ) : Type 0 where
  pub online : IsOnlineRun agent start text status
  pub so : JournalIsSo (started agent start) online.report.entries
  pub dealt : AreDealtWith (started agent start) scripts online.report.entries olds news
  pub scripted : inline ≡ true → AllTellLeft (started agent start) olds
      → FollowsScripts agent start scripts text status

-- these are texts of the scripts
abbrev pub AreTextsOf : List Text → List Script → Type 0
AreTextsOf texts scripts = map script_spelled texts ≡ map Some scripts

-- the same of a report, that of a journal with the runs that its steps begin
pub record IsReportOf (agent : Agent) (scripts : List Script) (inline : Bool) (olds news : List Standing)
    (report : Report) : Type 0 where
  pub journal : Journal
  pub is : report ≡ report_of agent journal
  pub fits : IsReport agent (report_of agent journal)
  pub lawful : IsBoardList agent journal
  pub online : IsOnline agent (report_of agent journal)
  pub dealt : AreDealtWith agent scripts journal olds news
  pub scripted : inline ≡ true → AllTellLeft agent olds → FollowsRounds (lead agent) IsShort agent scripts [] journal

-- the devices have begun, each under its name with its text, and the journal has what came of it
pub record HasBegun (agent : Agent) (texts : List Text) (olds news : List Standing) (journal : AgentJournal)
    : Type 0 where
  pub same_agent : journal.agent ≡ agent
  pub lawful : IsBoardList agent journal.entries
  pub behind : IsBehind [] journal.entries
  pub begun : HaveBegun (length texts) agent.devices texts journal.entries olds news
  pub ready : AreReady agent journal.entries

-- the devices have begun, each with a text of its script
pub record HasBegunWith (agent : Agent) (scripts : List Script) (olds news : List Standing) (journal : AgentJournal)
    : Type 0 where
  pub texts : List Text
  pub are : AreTextsOf texts scripts
  pub begun : HasBegun agent texts olds news journal
