-- What a call of the program comes to: each outcome with its cause, its text and its status.
use Rattle.std.specs.Prelude.{◌≡◌, ◌⊎◌, ℕ, ◌<◌, Bool, true, false, not, ⊤, List, [], ◌++◌, All, Option, None, Some, IsSome, IfSome, codes, decimal, length}
use Rattle.golog_base.specs.Faults.{Rose}
use Rattle.golog_base.specs.Known.{and_then_bytes, AddsPrefix}
use Rattle.golog_base.specs.declared.mem_files.HeldFile.{HeldFile}
use Rattle.golog_tree.specs.declared.agent.Agent.{Agent}
use Rattle.golog_tree.specs.declared.cond.Cond.{Cond}
use Rattle.golog_tree.specs.declared.cond.Truth.{Truth}
use Rattle.golog_tree.specs.declared.cond.Truth.TheVariants.{Yes, No, Unknown}
use Rattle.golog_tree.specs.declared.draft.DraftTheory.{DraftTheory}
use Rattle.golog_semantics.specs.BlockFree.{has_block}
use Rattle.golog_semantics.specs.InSorts.{AreInSorts}
use Rattle.golog_semantics.specs.Restart.{journal_text, migrated, started, values_left}
use Rattle.golog_semantics.specs.Text.{Text, answer_text, head_text}
use Rattle.golog_semantics.specs.Verdicts.{why_text, VerdictIs}
use Rattle.golog_semantics.specs.Execution.{status_of as answer_status}
use Rattle.golog_semantics.specs.Progress.{values_after}
use Rattle.golog_semantics.specs.Truth.{Values, env_of, truth_of}
use Rattle.golog_semantics.specs.WellFormed.{WellFormed}
use Rattle.golog_semantics.specs.Dealt.{Meaning}
use Rattle.golog_device.specs.Slots.{Standing, standings}
use Rattle.golog_script.specs.declared.scripts.Script.{Script}
use Rattle.golog_script.specs.ScriptTexts.{HasTexts}
use Rattle.golog_file.specs.Spelled.{SpellsAgent, IsFirstRefusal}
use Rattle.golog_file.specs.Conditions.{SpellsCond, RefusesCond}
use Rattle.golog_file.specs.declared.reading.Understood.{Understood}
use Rattle.golog_check_text.specs.Counts.{check_text}
use Rattle.golog_semantics.specs.declared.journal.Verdict.{Verdict}
use Rattle.golog_semantics.specs.declared.journal.Verdict.TheVariants.{Online, Not}
use Rattle.golog_team.specs.declared.shape.TeamRefusal.{TeamRefusal}
use Rattle.golog_team.specs.Shapes.{team_refusal}
use Rattle.golog_words.specs.Commands.{CommandLine, run, check, replay, ask, migrate, demo, team, plan}
use Rattle.golog_commands.specs.declared.outcome.Input.{Input}
use Rattle.golog_commands.specs.declared.outcome.Input.TheVariants.{Agent as AgentFile, Devices as DevicesFile, Journal as JournalFile, Condition, First, Second}
use Rattle.golog_commands.specs.declared.outcome.Outcome.{Outcome}
use Rattle.golog_commands.specs.declared.outcome.Outcome.TheVariants.{WordsRefused, ReadFault, Refused, Ran, Checked, Judged, Asked, Migrated, Demonstrated, Teamed}
use Rattle.golog_commands.specs.declared.teams.Pair.{Pair}
use Rattle.golog_commands.specs.declared.ready.Ready.{Ready}
use Rattle.golog_commands.specs.declared.ready.Told.{Told}
use Rattle.golog_commands.specs.declared.ready.Unready.{Unready}
use Rattle.golog_commands.specs.declared.ready.Unready.TheVariants.{Ended, Memory}
use Rattle.golog_commands.specs.Inputs.{line, fault_text, refusal_text, input_limit, scripts_for, SpellsScripts, RefusesScripts, SpellsJournal, RefusesJournal, SpellsBoth, ReadsAgent, ReadsScripts, ReadsStart, Reads, Tells, IsUnread}
use Rattle.golog_commands.specs.Demos.{Demonstrates}
use Rattle.golog_commands.specs.Plans.{IsPlannedRunOf}
use Rattle.golog_commands.specs.Runs.{AreUnserved, IsRunOf}
use Rattle.golog_commands.specs.Teams.{IsTeamOf, team_input, team_status}

-- ---- what is written, and the status

-- the line that tells a truth
abbrev pub truth_line : Truth → Text
truth_line Yes = line (codes "true")
truth_line No = line (codes "false")
truth_line Unknown = line (codes "unknown")

-- the line that tells what a replay finds
abbrev pub verdict_line : Verdict → Text
verdict_line (Online answer) = line (codes "online " ++ answer_text answer)
verdict_line (Not place why) = line (codes "not online " ++ decimal place ++ codes " " ++ why_text why)

-- the status that tells it
abbrev pub verdict_status : Verdict → ℕ
verdict_status (Online answer) = 0
verdict_status (Not place why) = 17

abbrev pub outcome_text : Outcome → Text
outcome_text WordsRefused = line (codes "words refused")
outcome_text (ReadFault input) = fault_text input
outcome_text (Refused input text) = text
outcome_text (Ran text answer) = text
outcome_text (Checked text) = text
outcome_text (Judged verdict text) = text
outcome_text (Asked truth) = truth_line truth
outcome_text (Migrated text) = text
outcome_text (Demonstrated text) = text
outcome_text (Teamed text one other) = text

abbrev pub outcome_status : Outcome → ℕ
outcome_status WordsRefused = 2
outcome_status (ReadFault input) = 4
outcome_status (Refused input text) = 3
outcome_status (Ran text answer) = answer_status answer
outcome_status (Checked text) = 0
outcome_status (Judged verdict text) = verdict_status verdict
outcome_status (Asked truth) = 0
outcome_status (Migrated text) = 0
outcome_status (Demonstrated text) = 0
outcome_status (Teamed text one other) = team_status one other

-- ---- the causes

-- What comes of an input: it can't be read, it is refused, or it holds a value, and the outcome is of that.
pub data ComesOf {A : Type 0} (input : Input) (Unread : Type 0) (Refuses : Text → Type 0) (Holds : A → Type 0)
    (Next : A → Outcome → Type 0) (outcome : Outcome) : Type 0 where
  unread : outcome ≡ ReadFault input → Unread → ComesOf input Unread Refuses Holds Next outcome
  refused : (text : Text) → outcome ≡ Refused input text → Refuses text
      → ComesOf input Unread Refuses Holds Next outcome
  holds : (x : A) → Holds x → Next x outcome → ComesOf input Unread Refuses Holds Next outcome

-- what a run of the agent from this start with these scripts comes to: its text is that of an online execution
abbrev pub RunOf : Agent → Option Values → List Script → Bool → List Standing → List Standing → Outcome → Type 0
RunOf agent start listed inline olds news (Ran text answer) =
    IsRunOf agent start (scripts_for agent listed) inline olds news text (answer_status answer)
RunOf agent start listed inline olds news outcome = ⊥

-- what a replay of a journal that was read finds, from the journal's own start where it has one, and its line
pub record Judges (agent : Agent) (told : Told) (outcome : Outcome) : Type 0 where
  pub formed : WellFormed agent
  pub verdict : Verdict
  pub so : VerdictIs (started agent told.report.start) told.bytes told.report verdict
  pub is : outcome ≡ Judged verdict (verdict_line verdict)

-- the truth of a condition after the entries of a journal, from the journal's own start where it has one
abbrev pub truth_after : Agent → Told → Cond → Truth
truth_after agent told cond =
    let own = started agent told.report.start in
    truth_of own (values_after own told.report.entries) cond (env_of [])

abbrev pub TruthOf : Agent → Told → Cond → Outcome → Type 0
TruthOf agent told cond outcome = outcome ≡ Asked (truth_after agent told cond)

-- the text of a journal with its start written out
abbrev pub MigratedOf : Agent → Told → Outcome → Type 0
MigratedOf agent told outcome = outcome ≡ Migrated (journal_text agent (migrated agent told.report))

-- what two agents come to as a team: the text is that of two journals that fit each other
abbrev pub TeamOf : Agent → Agent → Bool → Outcome → Type 0
TeamOf first second inline (Teamed text one other) = IsTeamOf first second inline text one other
TeamOf first second inline outcome = ⊥

-- two agents that are no team are refused, by the file of one
abbrev pub TeamBy : Option TeamRefusal → (Outcome → Type 0) → Outcome → Type 0
TeamBy None Next outcome = Next outcome
TeamBy (Some r) Next outcome = outcome ≡ Refused (team_input r.side) (refusal_text (team_input r.side) r.code r.at)

-- what a run of the agent comes to that follows plans: its text is that of the journal of one
abbrev pub PlannedRunOf : Agent → ℕ → ℕ → List Script → Bool → List Standing → List Standing → Outcome → Type 0
PlannedRunOf agent depth fuel listed inline olds news (Ran text answer) =
    IsPlannedRunOf agent depth fuel (scripts_for agent listed) inline olds news text (answer_status answer)
PlannedRunOf agent depth fuel listed inline olds news outcome = ⊥

-- an agent whose program holds or reaches a search block is refused, for no plan has one
abbrev pub PlannableBy : Bool → (Outcome → Type 0) → Outcome → Type 0
PlannableBy false Next outcome = Next outcome
PlannableBy true Next outcome = outcome ≡ Refused AgentFile (refusal_text AgentFile 39 0)

abbrev pub OfPlannable : Agent → (Outcome → Type 0) → Outcome → Type 0
OfPlannable agent = PlannableBy (has_block agent agent.main)

-- What is held under names, and how often a call of the files had failed before and after the call.
module _ (held : Option (List HeldFile)) (faults_before faults_after : ℕ) where
  -- what comes of a file: no such file is held or a call failed, its bytes are refused, or they spell a value
  abbrev pub OfFile : {A : Type 0} → Input → Text → (Text → ℕ → ℕ → Type 0) → (Text → A → Type 0)
      → (A → Outcome → Type 0) → Outcome → Type 0
  OfFile input name Refuses Spells =
      ComesOf input (IsUnread held name faults_before faults_after)
      (λ text. Reads held name (λ bytes. Tells input (Refuses bytes) text))
      (λ x. Reads held name (λ bytes. Spells bytes x))

  -- what comes of the agent file
  abbrev pub OfAgent : Text → (Agent → Outcome → Type 0) → Outcome → Type 0
  OfAgent name = OfFile AgentFile name IsFirstRefusal SpellsAgent

  -- the same, with its theory, over which conditions are read
  abbrev pub OfBoth : Text → (Understood → Outcome → Type 0) → Outcome → Type 0
  OfBoth name = OfFile AgentFile name IsFirstRefusal SpellsBoth

  -- what comes of the two agent files of a team
  abbrev pub OfTeam : Text → Text → (Agent → Agent → Outcome → Type 0) → Outcome → Type 0
  OfTeam first second Next =
      OfFile First first IsFirstRefusal SpellsAgent (λ a.
      OfFile Second second IsFirstRefusal SpellsAgent (λ b. TeamBy (team_refusal a b) (Next a b)))

  -- what comes of the devices file, if there is one; without it there are no scripts
  abbrev pub OfScripts : Agent → Option Text → (List Script → Outcome → Type 0) → Outcome → Type 0
  OfScripts agent None Next = Next []
  OfScripts agent (Some name) Next = OfFile DevicesFile name (RefusesScripts agent) (SpellsScripts agent) Next

  -- what comes of the journal file
  abbrev pub OfJournal : Agent → Text → (Told → Outcome → Type 0) → Outcome → Type 0
  OfJournal agent name = OfFile JournalFile name (RefusesJournal agent) (SpellsJournal agent)

  -- what comes of the journal file that a run begins from, if there is one: the values that it leaves
  abbrev pub OfFrom : Agent → Option Text → (Option Values → Outcome → Type 0) → Outcome → Type 0
  OfFrom agent None Next = Next None
  OfFrom agent (Some name) Next = OfJournal agent name (λ told. Next (Some (values_left agent told.report)))

-- what comes of the condition, whose bytes stand among the words
abbrev pub OfCondition : DraftTheory → Agent → Text → (Cond → Outcome → Type 0) → Outcome → Type 0
OfCondition theory agent bytes =
    ComesOf Condition ⊥ (Tells Condition (RefusesCond theory agent bytes)) (SpellsCond theory agent bytes)

-- The cause of each outcome of a command, its inputs in the order in which they are read. The standings are those of
-- the devices before and after the call.
module _ (held : Option (List HeldFile)) (faults_before faults_after : ℕ) (olds news : List Standing) where
  abbrev pub Comes : Option CommandLine → Outcome → Type 0
  Comes None = λ outcome. outcome ≡ WordsRefused
  Comes (Some (run agent devices inline from workers)) =
      OfAgent held faults_before faults_after agent (λ a.
      OfScripts held faults_before faults_after a devices (λ listed.
      OfFrom held faults_before faults_after a from (λ start.
      RunOf a start listed inline olds news)))
  Comes (Some (check agent)) =
      OfAgent held faults_before faults_after agent (λ a outcome. outcome ≡ Checked (check_text a))
  Comes (Some (replay agent journal)) =
      OfAgent held faults_before faults_after agent (λ a.
      OfJournal held faults_before faults_after a journal (Judges a))
  Comes (Some (ask agent journal condition)) =
      OfBoth held faults_before faults_after agent (λ u.
      OfJournal held faults_before faults_after u.agent journal (λ told.
      OfCondition u.theory u.agent condition (λ cond.
      TruthOf u.agent told cond)))
  Comes (Some (migrate agent journal)) =
      OfAgent held faults_before faults_after agent (λ a.
      OfJournal held faults_before faults_after a journal (MigratedOf a))
  Comes (Some (demo size)) = Demonstrates size olds news
  Comes (Some (team first second inline)) =
      OfTeam held faults_before faults_after first second (λ a b. TeamOf a b inline)
  Comes (Some (plan depth fuel agent devices inline)) =
      OfAgent held faults_before faults_after agent (λ a.
      OfPlannable a (OfScripts held faults_before faults_after a devices (λ listed.
      PlannedRunOf a depth fuel listed inline olds news)))

-- ---- the call

-- what the files, the sink and the devices mean at one moment
pub record Outside : Type 0 where
  pub held : Option (List HeldFile)
  pub file_faults : ℕ
  pub taken : Option Text
  pub sink_faults : ℕ
  pub devices : List Standing

-- what these files, this sink and these devices mean
abbrev pub outside : {F K D : Type 0} → (F → Option (List HeldFile)) → (F → ℕ) → (K → Option Text) → (K → ℕ)
    → (D → Bool) → (D → Meaning) → F → K → List D → Outside
outside held file_faults taken sink_faults fresh meaning files out devices = record {
  held = held files;
  file_faults = file_faults files;
  taken = taken out;
  sink_faults = sink_faults out;
  devices = standings fresh meaning devices;
}

-- whether the devices had a part in an outcome
abbrev pub uses_devices : Outcome → Bool
uses_devices WordsRefused = false
uses_devices (ReadFault input) = false
uses_devices (Refused input text) = false
uses_devices (Ran text answer) = true
uses_devices (Checked text) = false
uses_devices (Judged verdict text) = false
uses_devices (Asked truth) = false
uses_devices (Migrated text) = false
uses_devices (Demonstrated text) = true
uses_devices (Teamed text one other) = false

-- the devices are as they were, unless they had a part
abbrev pub IsUntouched : List Standing → List Standing → Outcome → Type 0
IsUntouched olds news outcome = uses_devices outcome ≡ false → news ≡ olds

-- the text was written whole, no write failed and the status was answered, or a write failed and a prefix of the text
-- was written
abbrev pub Reports : ℕ → Text → ℕ → Option Text → Option Text → ℕ → ℕ → Type 0
Reports answered text status old new faults_before faults_after =
    ((answered ≡ status) × (new ≡ and_then_bytes old text) × (faults_after ≡ faults_before))
    ⊎ ((answered ≡ 5) × AddsPrefix old new text × Rose faults_before faults_after)

-- the outcome has its cause, and was reported
pub record IsReported (status : ℕ) (spelled : Option CommandLine) (before after : Outside) : Type 0 where
  pub outcome : Outcome
  pub cause : Comes before.held before.file_faults after.file_faults before.devices after.devices spelled outcome
  pub untouched : IsUntouched before.devices after.devices outcome
  pub report : Reports status (outcome_text outcome) (outcome_status outcome)
      before.taken after.taken before.sink_faults after.sink_faults

-- What memory that runs out while a command is done leaves of the devices. In a run, planned or not, each is as it was,
-- or has begun and was given and told nothing; a demo may have served them; the other commands leave them as they were.
abbrev pub LeavesDevices : Option CommandLine → List Standing → List Standing → Type 0
LeavesDevices None olds news = ⊤
LeavesDevices (Some (run agent devices inline from workers)) olds news = AreUnserved olds news
LeavesDevices (Some (check agent)) olds news = news ≡ olds
LeavesDevices (Some (replay agent journal)) olds news = news ≡ olds
LeavesDevices (Some (ask agent journal condition)) olds news = news ≡ olds
LeavesDevices (Some (migrate agent journal)) olds news = news ≡ olds
LeavesDevices (Some (demo size)) olds news = ⊤
LeavesDevices (Some (team first second inline)) olds news = news ≡ olds
LeavesDevices (Some (plan depth fuel agent devices inline)) olds news = AreUnserved olds news

-- the head of a run that begins from a journal was written, and no more
pub record AddsHead (name : Text) (from : Option Text) (before after : Outside) : Type 0 where
  pub agent : Agent
  pub reads : ReadsAgent before.held name agent
  pub values : Values
  pub left : ReadsStart before.held agent from (Some values)
  pub sorts : AreInSorts agent values
  pub added : after.taken ≡ and_then_bytes before.taken (head_text agent values)

-- What memory that runs out while a command is done leaves written: nothing, or of a run over threads its head.
abbrev pub LeavesText : Option CommandLine → Outside → Outside → Type 0
LeavesText None before after = after.taken ≡ before.taken
LeavesText (Some (run agent devices inline from workers)) before after =
    (after.taken ≡ before.taken) ⊎ ((inline ≡ false) × AddsHead agent from before after)
LeavesText (Some (check agent)) before after = after.taken ≡ before.taken
LeavesText (Some (replay agent journal)) before after = after.taken ≡ before.taken
LeavesText (Some (ask agent journal condition)) before after = after.taken ≡ before.taken
LeavesText (Some (migrate agent journal)) before after = after.taken ≡ before.taken
LeavesText (Some (demo size)) before after = after.taken ≡ before.taken
LeavesText (Some (team first second inline)) before after = after.taken ≡ before.taken
LeavesText (Some (plan depth fuel agent devices inline)) before after = after.taken ≡ before.taken

-- memory ran out while a command was done, nothing was written, or of a run over threads the head alone, no write
-- failed, and no device was served by a run
pub record LacksMemory (status : ℕ) (spelled : Option CommandLine) (before after : Outside) : Type 0 where
  pub answered : status ≡ 6
  pub command : IsSome spelled
  pub nothing : LeavesText spelled before after
  pub no_fault : after.sink_faults ≡ before.sink_faults
  pub devices : LeavesDevices spelled before.devices after.devices

-- how a call ends whose words spell this command, or none: with an outcome that has its cause, or for want of memory
abbrev pub CallEnds : ℕ → Option CommandLine → Outside → Outside → Type 0
CallEnds status spelled before after = IsReported status spelled before after ⊎ LacksMemory status spelled before after

-- ---- what the parts of a call come to

-- whether the command is a run over threads, planned or not, or of a team, whose sides take turns at a lock
abbrev pub is_threaded : CommandLine → Bool
is_threaded (run agent devices inline from workers) = not inline
is_threaded (check agent) = false
is_threaded (replay agent journal) = false
is_threaded (ask agent journal condition) = false
is_threaded (migrate agent journal) = false
is_threaded (demo size) = false
is_threaded (team first second inline) = true
is_threaded (plan depth fuel agent devices inline) = not inline

-- where a file is refused or can't be read, and memory didn't run out, this is so of what is said
abbrev pub IfEnded : Unready → (Outcome → Type 0) → Type 0
IfEnded (Ended outcome) P = P outcome
IfEnded Memory P = Unit {0}

-- nothing comes of a value
abbrev pub Never : {A : Type 0} → A → Outcome → Type 0
Never x outcome = ⊥

-- nothing comes of it
abbrev pub Nothing : Outcome → Type 0
Nothing outcome = ⊥

-- bytes above the limit of an input, its code, and the limit
abbrev pub IsTooLong : Input → Text → ℕ → ℕ → Type 0
IsTooLong input bytes code at = (input_limit input < length bytes) × (code ≡ 5) × (at ≡ input_limit input)

-- what is said of a file that cannot be read, or whose bytes are refused so
abbrev pub FileFails : Input → (Text → ℕ → ℕ → Type 0) → Option (List HeldFile) → Text → ℕ → ℕ → Outcome → Type 0
FileFails input Refuses held name faults_before faults_after outcome =
    ((outcome ≡ ReadFault input) × IsUnread held name faults_before faults_after)
    ⊎ ((text : Text) × (outcome ≡ Refused input text) × Reads held name (λ bytes. Tells input (Refuses bytes) text))

-- what is said of a condition whose bytes are refused
abbrev pub CondFails : DraftTheory → Agent → Text → Outcome → Type 0
CondFails theory agent bytes outcome =
    (text : Text) × (outcome ≡ Refused Condition text) × Tells Condition (RefusesCond theory agent bytes) text

-- what is ready begins from the values that the journal file leaves, if there is one: its agent is this one,
-- restarted at them
pub record BeginsFrom (held : Option (List HeldFile)) (own : Agent) (from : Option Text) (ready : Ready)
    : Type 0 where
  pub start_so : ReadsStart held own from ready.start
  pub sorts : IfSome ready.start (AreInSorts own)
  pub is : ready.agent ≡ started own ready.start
  pub formed : WellFormed ready.agent
  pub kept : IfSome ready.start (AreInSorts ready.agent)

-- the files spell an agent, scripts of its devices, and the values that it was restarted at, if it was
pub record HoldsRun (held : Option (List HeldFile)) (agent : Text) (devices from : Option Text) (ready : Ready)
    : Type 0 where
  pub own : Agent
  pub own_formed : WellFormed own
  pub agent_so : ReadsAgent held agent own
  pub scripts_so : ReadsScripts held own devices ready.scripts
  pub texts : All HasTexts ready.scripts
  pub begins : BeginsFrom held own from ready

-- the files spell an agent whose program reaches no search block, and scripts of its devices
pub record HoldsPlanned (held : Option (List HeldFile)) (agent : Text) (devices : Option Text) (ready : Ready)
    : Type 0 where
  pub formed : WellFormed ready.agent
  pub agent_so : ReadsAgent held agent ready.agent
  pub plannable : has_block ready.agent ready.agent.main ≡ false
  pub scripts_so : ReadsScripts held ready.agent devices ready.scripts
  pub texts : All HasTexts ready.scripts

-- the files spell two agents that are a team
pub record HoldsTeam (held : Option (List HeldFile)) (first second : Text) (pair : Pair) : Type 0 where
  pub formed : WellFormed pair.first × WellFormed pair.second
  pub first_so : ReadsAgent held first pair.first
  pub second_so : ReadsAgent held second pair.second
  pub unrefused : team_refusal pair.first pair.second ≡ None
