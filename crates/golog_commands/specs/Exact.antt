-- Each status comes exactly where its cause is.
use Rattle.std.specs.Prelude.{◌≡◌, ◌⊎◌, ℕ, ◌≤◌, Bool, true, false, List, [], Option, None, Some, IsSome}
use Rattle.golog_base.specs.Faults.{Rose}
use Rattle.golog_base.specs.Files.{HasNone, bytes_of}
use Rattle.golog_base.specs.Known.{and_then_bytes}
use Rattle.golog_base.specs.declared.mem_files.HeldFile.{HeldFile}
use Rattle.golog_tree.specs.declared.agent.Agent.{Agent}
use Rattle.golog_tree.specs.declared.cond.Cond.{Cond}
use Rattle.golog_tree.specs.declared.draft.DraftTheory.{DraftTheory}
use Rattle.golog_semantics.specs.declared.journal.Answer.{Answer}
use Rattle.golog_semantics.specs.declared.journal.Answer.TheVariants.{Memory}
use Rattle.golog_semantics.specs.declared.journal.Why.{Why}
use Rattle.golog_semantics.specs.Text.{Text}
use Rattle.golog_semantics.specs.BlockFree.{has_block}
use Rattle.golog_semantics.specs.Restart.{journal_text, migrated, started, values_left}
use Rattle.golog_semantics.specs.Truth.{Values}
use Rattle.golog_script.specs.declared.scripts.Script.{Script}
use Rattle.golog_file.specs.Spelled.{SpellsAgent, IsFirstRefusal}
use Rattle.golog_file.specs.Conditions.{SpellsCond, RefusesCond}
use Rattle.golog_file.specs.declared.reading.Understood.{Understood}
use Rattle.golog_check_text.specs.Counts.{check_text}
use Rattle.golog_semantics.specs.Verdicts.{VerdictIs}
use Rattle.golog_semantics.specs.declared.journal.Verdict.{Verdict}
use Rattle.golog_semantics.specs.declared.journal.Verdict.TheVariants.{Not}
use Rattle.golog_team.specs.declared.shape.TeamRefusal.{TeamRefusal}
use Rattle.golog_team.specs.Shapes.{team_refusal}
use Rattle.golog_words.specs.Commands.{CommandLine, run, check, replay, ask, migrate, demo, team, plan}
use Rattle.golog_commands.specs.declared.outcome.Input.{Input}
use Rattle.golog_commands.specs.declared.outcome.Input.TheVariants.{Agent as AgentFile}
use Rattle.golog_commands.specs.declared.outcome.Outcome.{Outcome}
use Rattle.golog_commands.specs.declared.outcome.Outcome.TheVariants.{ReadFault, Refused, Ran, Judged, Demonstrated, Teamed}
use Rattle.golog_commands.specs.declared.ready.Told.{Told}
use Rattle.golog_commands.specs.Inputs.{SpellsScripts, RefusesScripts, SpellsJournal, RefusesJournal, SpellsBoth, scripts_for, refusal_text}
use Rattle.golog_commands.specs.Teams.{IsTeamOf, team_input, team_status}
use Rattle.golog_commands.specs.Demos.{Demonstrates}
use Rattle.golog_commands.specs.Plans.{IsPlannedRunOf}
use Rattle.golog_commands.specs.Runs.{IsRunOf}
use Rattle.golog_commands.specs.Outcome.{Outside, Comes, CallEnds, LeavesText, outcome_status, outcome_text, truth_after, truth_line, verdict_line, verdict_status}

-- the text was written whole
abbrev pub Writes : Outside → Outside → Text → Type 0
Writes before after text = after.taken ≡ and_then_bytes before.taken text

-- the text was written whole of a run of which this is so
pub record Wrote (before after : Outside) (Runs : Text → Type 0) : Type 0 where
  pub text : Text
  pub runs : Runs text
  pub written : Writes before after text

-- ---- a status only where its cause is

-- the outcome has its cause and this status, and its text was written whole
pub record Shows (status : ℕ) (spelled : Option CommandLine) (before after : Outside) (outcome : Outcome) : Type 0 where
  pub cause : Comes before.held before.file_faults after.file_faults before.devices after.devices spelled outcome
  pub shown : status ≡ outcome_status outcome
  pub written : Writes before after (outcome_text outcome)

-- the status of a run that was not stopped for want of memory
abbrev pub IsRunStatus : ℕ → Type 0
IsRunStatus status = (status ≡ 0) ⊎ ((10 ≤ status) × (status ≤ 16))

-- the journals of a team were written, whose ends have this status
abbrev pub ShowsTeam : ℕ → Option CommandLine → Outside → Outside → Type 0
ShowsTeam status spelled before after =
    (text : Text) × (one : Answer) × (other : Answer) × Shows status spelled before after (Teamed text one other)

-- what each status says: which outcome it is of, and so its cause
pub record SaysItsCause (status : ℕ) (spelled : Option CommandLine) (before after : Outside) : Type 0 where
  pub words_refused : status ≡ 2 → spelled ≡ None
  pub refused : status ≡ 3 → (input : Input) × (text : Text) × Shows status spelled before after (Refused input text)
  pub read_fault : status ≡ 4 → (input : Input) × Shows status spelled before after (ReadFault input)
  pub write_fault : status ≡ 5 → Rose before.sink_faults after.sink_faults
  pub starved : status ≡ 6 → IsSome spelled × (LeavesText spelled before after
      ⊎ ((text : Text) × Shows status spelled before after (Ran text Memory))
      ⊎ ShowsTeam status spelled before after)
  pub ran : (10 ≤ status) × (status ≤ 16)
      → ((text : Text) × (answer : Answer) × Shows status spelled before after (Ran text answer))
      ⊎ ShowsTeam status spelled before after
  pub not_online : status ≡ 17
      → (place : ℕ) × (why : Why) × (text : Text) × Shows status spelled before after (Judged (Not place why) text)
  pub served : status ≡ 0 → (outcome : Outcome) × Shows status spelled before after outcome

-- ---- and wherever its cause is

-- what may come in place of any answer: a write that failed, or want of memory
abbrev pub IsStopped : ℕ → Outside → Outside → Type 0
IsStopped status before after = ((status ≡ 5) × Rose before.sink_faults after.sink_faults) ⊎ (status ≡ 6)

-- this status, or one that comes in its place
abbrev pub Answers : ℕ → ℕ → Outside → Outside → Type 0
Answers status wanted before after = (status ≡ wanted) ⊎ IsStopped status before after

-- this status with this text written whole, or one that comes in its place
abbrev pub Says : ℕ → ℕ → Text → Outside → Outside → Type 0
Says status wanted text before after =
    ((status ≡ wanted) × Writes before after text) ⊎ IsStopped status before after

-- what is held is told and has these bytes under the name, and no read failed
pub record IsRead (name bytes : Text) (before after : Outside) : Type 0 where
  pub files : List HeldFile
  pub told : before.held ≡ Some files
  pub has : bytes_of files name ≡ Some bytes
  pub unfailed : ¬ Rose before.file_faults after.file_faults

module _ (status : ℕ) (before after : Outside) where
  -- What follows of a file: where there is none of the name, where its bytes are refused, and where they spell a
  -- value.
  pub record FileFollows {A : Type 0} (Refuses : Text → ℕ → ℕ → Type 0) (Spells : Text → A → Type 0) (name : Text)
      (Next : A → Type 0) : Type 0 where
    pub no_file : HasNone before.held name → Answers status 4 before after
    pub refused : (bytes : Text) (code at : ℕ) → IsRead name bytes before after → Refuses bytes code at
        → Answers status 3 before after
    pub spelled : (bytes : Text) (x : A) → IsRead name bytes before after → Spells bytes x → Next x

  -- the same of a condition, which stands among the words
  pub record CondFollows (theory : DraftTheory) (agent : Agent) (bytes : Text) (Next : Cond → Type 0)
      : Type 0 where
    pub refused : (code at : ℕ) → RefusesCond theory agent bytes code at → Answers status 3 before after
    pub spelled : (cond : Cond) → SpellsCond theory agent bytes cond → Next cond

  abbrev pub AgentFollows : Text → (Agent → Type 0) → Type 0
  AgentFollows = FileFollows IsFirstRefusal SpellsAgent

  -- the same, with its theory
  abbrev pub BothFollow : Text → (Understood → Type 0) → Type 0
  BothFollow = FileFollows IsFirstRefusal SpellsBoth

  -- without a devices file there are no scripts
  abbrev pub ScriptsFollow : Agent → Option Text → (List Script → Type 0) → Type 0
  ScriptsFollow agent None Next = Next []
  ScriptsFollow agent (Some name) Next = FileFollows (RefusesScripts agent) (SpellsScripts agent) name Next

  abbrev pub JournalFollows : Agent → Text → (Told → Type 0) → Type 0
  JournalFollows agent = FileFollows (RefusesJournal agent) (SpellsJournal agent)

  -- a run without a journal file begins from no other values than the agent's
  abbrev pub FromFollows : Agent → Option Text → (Option Values → Type 0) → Type 0
  FromFollows agent None Next = Next None
  FromFollows agent (Some name) Next =
      JournalFollows agent name (λ told. Next (Some (values_left agent told.report)))

  -- the text is of a run of the agent from this start with these scripts, and the status that of its end; or the
  -- call was stopped
  abbrev pub RunFollows : Agent → Option Values → List Script → Bool → Type 0
  RunFollows agent start listed inline =
      Wrote before after
      (λ text. IsRunOf agent start (scripts_for agent listed) inline before.devices after.devices text status)
      ⊎ IsStopped status before after

  -- the text is that of a demo of this size; or the call was stopped
  abbrev pub DemoFollows : ℕ → Type 0
  DemoFollows size =
      ((status ≡ 0)
      × Wrote before after (λ text. Demonstrates size before.devices after.devices (Demonstrated text)))
      ⊎ IsStopped status before after

  -- two agents that are no team are refused; else the text is that of both journals, and the status that of their
  -- ends; or the call was stopped
  pub record TeamFollows (first second : Agent) (inline : Bool) : Type 0 where
    pub refused : (r : TeamRefusal) → team_refusal first second ≡ Some r
        → Says status 3 (refusal_text (team_input r.side) r.code r.at) before after
    pub played : team_refusal first second ≡ None
        → ((one : Answer) × (other : Answer) × (status ≡ team_status one other)
        × Wrote before after (λ text. IsTeamOf first second inline text one other))
        ⊎ IsStopped status before after

  -- an agent whose program holds or reaches a search block is refused, and of another this follows
  pub record PlannableFollows (agent : Agent) (Next : Type 0) : Type 0 where
    pub refused : has_block agent agent.main ≡ true → Says status 3 (refusal_text AgentFile 39 0) before after
    pub plannable : has_block agent agent.main ≡ false → Next

  -- the text is of a run of the agent with these scripts that follows plans, and the status that of its end; or the
  -- call was stopped
  abbrev pub PlanFollows : Agent → ℕ → ℕ → List Script → Bool → Type 0
  PlanFollows agent depth fuel listed inline =
      Wrote before after
      (λ text. IsPlannedRunOf agent depth fuel (scripts_for agent listed) inline before.devices after.devices text status)
      ⊎ IsStopped status before after

  -- what a replay of the journal finds is told, by its status and its line; or the call was stopped
  abbrev pub JudgedFollows : Agent → Told → Type 0
  JudgedFollows agent told =
      (verdict : Verdict) → VerdictIs (started agent told.report.start) told.bytes told.report verdict
      → Says status (verdict_status verdict) (verdict_line verdict) before after

  abbrev pub TruthFollows : Agent → Told → Cond → Type 0
  TruthFollows agent told cond = Says status 0 (truth_line (truth_after agent told cond)) before after

  -- what words come to that are no command, and what each input of a command does
  abbrev pub FollowsItsCause : Option CommandLine → Type 0
  FollowsItsCause None = Answers status 2 before after
  FollowsItsCause (Some (run agent devices inline from workers)) =
      AgentFollows agent (λ a. ScriptsFollow a devices (λ listed. FromFollows a from (λ start.
      RunFollows a start listed inline)))
  FollowsItsCause (Some (check agent)) = AgentFollows agent (λ a. Says status 0 (check_text a) before after)
  FollowsItsCause (Some (replay agent journal)) =
      AgentFollows agent (λ a. JournalFollows a journal (λ told. JudgedFollows a told))
  FollowsItsCause (Some (ask agent journal condition)) =
      BothFollow agent (λ u. JournalFollows u.agent journal (λ told.
      CondFollows u.theory u.agent condition (λ cond. TruthFollows u.agent told cond)))
  FollowsItsCause (Some (migrate agent journal)) =
      AgentFollows agent (λ a. JournalFollows a journal (λ told.
      Says status 0 (journal_text a (migrated a told.report)) before after))
  FollowsItsCause (Some (demo size)) = DemoFollows size
  FollowsItsCause (Some (team first second inline)) =
      AgentFollows first (λ a. AgentFollows second (λ b. TeamFollows a b inline))
  FollowsItsCause (Some (plan depth fuel agent devices inline)) =
      AgentFollows agent (λ a. PlannableFollows a (ScriptsFollow a devices (λ listed.
      PlanFollows a depth fuel listed inline)))

abbrev pub StatusesAreExact : Type 0
StatusesAreExact =
    (status : ℕ) (spelled : Option CommandLine) (before after : Outside) → CallEnds status spelled before after
    → SaysItsCause status spelled before after × FollowsItsCause status before after spelled
