-- What a run makes of the journal and of the devices.
use Rattle.std.specs.Prelude.{◌≡◌, ℕ, Bool, true, ◌≤◌, nat_lt, List, Contains, length}
use Rattle.golog_tree.specs.declared.agent.Agent.{Agent}
use Rattle.golog_semantics.specs.declared.journal.Answer.{Answer}
use Rattle.golog_semantics.specs.declared.journal.Entry.TheVariants.{Close, End}
use Rattle.golog_semantics.specs.declared.journal.Reason.TheVariants.{Refused}
use Rattle.golog_semantics.specs.declared.journal.Report.{Report}
use Rattle.golog_semantics.specs.Journal.{Journal, longest}
use Rattle.golog_semantics.specs.Online.{IsOnline}
use Rattle.golog_semantics.specs.InlineText.{report_of}
use Rattle.golog_semantics.specs.Dealt.{Meaning, Script}
use Rattle.golog_semantics.specs.Inline.{lead}
use Rattle.golog_lead.specs.Short.{IsShort}
use Rattle.golog_journal.specs.Boards.{IsBoardList}
use Rattle.golog_device.specs.Slots.{Standing, EachSlot, ChangesIf}
use Rattle.golog_lead.specs.Rounds.{FollowsRounds, HasServed, TellLeft}
use Rattle.golog_threads.specs.Driving.{has_refused, RunsOverThreads}

-- a device has served the run, and has refused its script only if it had before
pub record Serves (agent : Agent) (old new : Journal) (device : ℕ) (was is : Standing) : Type 0 where
  pub served : HasServed agent old new device was is
  pub refused : Contains new (Close device Refused 0) → has_refused device old ≡ true

-- each device of the agent has, and a box that no device needs stays as it was
abbrev pub HaveRun : Agent → Journal → Journal → List Standing → List Standing → Type 0
HaveRun agent old new =
    EachSlot (λ device. ChangesIf (nat_lt device (length agent.devices)) (Serves agent old new device))

-- Where the devices tell what is left of their scripts, the journal goes on as the rounds of these, in each of which the
-- program's turn makes of the journal what `made` says; an early end has an answer of `early`.
abbrev pub FollowsLeft : (Journal → Journal) → (Answer → Type 0) → Agent → Journal → Journal → List Standing → Type 0
FollowsLeft made early agent old new olds =
    (scripts : List Script) → length scripts ≡ length agent.devices → TellLeft olds scripts
    → FollowsRounds made early agent scripts old new

-- the report is of a journal to which a run over threads of the agent's devices has gone on from these entries
pub record ServedOn {D : Type 0} (agent : Agent) (meaning : D → Meaning) (before : Journal) (olds news : List D)
    (report : Report) : Type 0 where
  pub journal : Journal
  pub is : report ≡ report_of agent journal
  pub online : IsOnline agent (report_of agent journal)
  pub ran : RunsOverThreads agent meaning before journal olds news

-- the report is of a journal to which a run has gone on from these entries
pub record RunsOn (agent : Agent) (inline : Bool) (before : Journal) (olds news : List Standing) (report : Report)
    : Type 0 where
  pub journal : Journal
  pub is : report ≡ report_of agent journal
  pub lawful : IsBoardList agent journal
  pub short : length journal ≤ longest
  pub online : IsOnline agent (report_of agent journal)
  pub run : HaveRun agent before journal olds news
  pub scripted : inline ≡ true → FollowsLeft (lead agent) IsShort agent before journal olds

-- a run of whose report this is so has gone on to its end
pub record HasEnded (P : Report → Type 0) : Type 0 where
  pub report : Report
  pub so : P report
  pub answer : Answer
  pub ended : Contains report.entries (End answer)
