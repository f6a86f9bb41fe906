-- A run that was printed is so in each world.
use Rattle.std.proofs.Common.{◌≡◌, ℕ, ◌<◌, Bool, true, false, List, [], Option, Some, None, inl, inr, arith, ap, refl, sym, subst, ◌∙◌}
use Rattle.golog_tree.specs.declared.agent.Agent.{Agent}
use Rattle.golog_semantics.specs.BlockFree.{has_block}
use Rattle.golog_semantics.specs.Certain.{JournalIsSo}
use Rattle.golog_semantics.specs.Restart.{started, values_left}
use Rattle.golog_semantics.specs.Text.{Text}
use Rattle.golog_semantics.specs.Truth.{Values}
use Rattle.golog_script.specs.declared.scripts.Script.{Script}
use Rattle.golog_words.specs.Commands.{CommandLine, run, check, replay, ask, migrate, demo, team, plan}
use Rattle.golog_commands.specs.declared.outcome.Input.{Input}
use Rattle.golog_commands.specs.declared.outcome.Input.TheVariants.{Agent as AgentFile, Devices as DevicesFile, Journal as JournalFile}
use Rattle.golog_commands.specs.declared.outcome.Outcome.{Outcome}
use Rattle.golog_commands.specs.declared.outcome.Outcome.TheVariants.{WordsRefused, ReadFault, Refused, Ran, Checked, Judged, Asked, Migrated, Demonstrated, Teamed}
use Rattle.golog_commands.specs.Exact.{IsRunStatus, Writes}
use Rattle.golog_commands.specs.InWorlds.{PrintsPlans, PrintsSo, PrintsWhatIsSo, RunsAreSo}
use Rattle.golog_commands.specs.Inputs.{ReadsAgent, ReadsStart}
use Rattle.golog_commands.specs.Outcome.{unread, refused, holds, CallEnds, Outside, OfFrom, OfScripts, PlannableBy, PlannedRunOf, Reports, RunOf, outcome_status, outcome_text}
use Rattle.golog_commands.proofs.Causes.{IsCaused}

-- no refusal and no fault has the status of a run
pub low : (status k : ℕ) → status ≡ k → 0 < k → k < 10 → IsRunStatus status → ⊥
low status k is some few (inl e) = omega (arith, is, some, e)
low status k is some few (inr (more, less)) = omega (arith, is, few, more)

module _ (status : ℕ) (before after : Outside) (ran : IsRunStatus status) where
  abbrev Runs : Agent → Bool → List Script → Option Values → Outcome → Type 0
  Runs agent inline listed start = RunOf agent start listed inline before.devices after.devices

  abbrev From : Agent → Option Text → Bool → List Script → Outcome → Type 0
  From agent from inline listed = OfFrom before.held before.file_faults after.file_faults agent from (Runs agent inline listed)

  printed : (name : Text) (agent : Agent) (from : Option Text) (start : Option Values) (inline : Bool) (listed : List Script) (outcome : Outcome)
      → ReadsAgent before.held name agent → ReadsStart before.held agent from start → Writes before after (outcome_text outcome)
      → Runs agent inline listed start outcome → PrintsWhatIsSo before after name from
  printed name agent from start inline listed (Ran text answer) reads begins written of = record {
    agent = agent;
    reads = reads;
    text = text;
    report = of.online.report;
    begun = subst (ReadsStart before.held agent from) (sym of.online.begun) begins;
    spelled = of.online.spelled;
    written = written;
    so = subst (λ s. JournalIsSo (started agent s) of.online.report.entries) (sym of.online.begun) of.so;
  }
  printed name agent from start inline listed WordsRefused reads begins written of = absurd of
  printed name agent from start inline listed (ReadFault input) reads begins written of = absurd of
  printed name agent from start inline listed (Refused input text) reads begins written of = absurd of
  printed name agent from start inline listed (Checked text) reads begins written of = absurd of
  printed name agent from start inline listed (Judged verdict text) reads begins written of = absurd of
  printed name agent from start inline listed (Asked truth) reads begins written of = absurd of
  printed name agent from start inline listed (Migrated text) reads begins written of = absurd of
  printed name agent from start inline listed (Demonstrated text) reads begins written of = absurd of
  printed name agent from start inline listed (Teamed text first second) reads begins written of = absurd of

  plans-printed : (name : Text) (agent : Agent) (depth fuel : ℕ) (inline : Bool) (listed : List Script) (outcome : Outcome) → ReadsAgent before.held name agent
      → Writes before after (outcome_text outcome) → PlannedRunOf agent depth fuel listed inline before.devices after.devices outcome → PrintsPlans before after name depth fuel
  plans-printed name agent depth fuel inline listed (Ran text answer) reads written of = record {
    agent = agent;
    reads = reads;
    journal = of.journal;
    planned = of.run.planned;
    written = subst (Writes before after) of.is written;
    so = of.so;
  }
  plans-printed name agent depth fuel inline listed WordsRefused reads written of = absurd of
  plans-printed name agent depth fuel inline listed (ReadFault input) reads written of = absurd of
  plans-printed name agent depth fuel inline listed (Refused input text) reads written of = absurd of
  plans-printed name agent depth fuel inline listed (Checked text) reads written of = absurd of
  plans-printed name agent depth fuel inline listed (Judged verdict text) reads written of = absurd of
  plans-printed name agent depth fuel inline listed (Asked truth) reads written of = absurd of
  plans-printed name agent depth fuel inline listed (Migrated text) reads written of = absurd of
  plans-printed name agent depth fuel inline listed (Demonstrated text) reads written of = absurd of
  plans-printed name agent depth fuel inline listed (Teamed text first second) reads written of = absurd of

  module _ (outcome : Outcome) (shown : status ≡ outcome_status outcome) (written : Writes before after (outcome_text outcome)) where
    -- neither a fault nor a refusal has the status of a run
    no-fault : {P : Type 0} (input : Input) → outcome ≡ ReadFault input → P
    no-fault input is = absurd (low status 4 (shown ∙ ap outcome_status is) (omega arith) (omega arith) ran)

    no-refusal : {P : Type 0} (input : Input) (text : Text) → outcome ≡ Refused input text → P
    no-refusal input text is = absurd (low status 3 (shown ∙ ap outcome_status is) (omega arith) (omega arith) ran)

    of-from : (name : Text) (agent : Agent) (from : Option Text) (inline : Bool) (listed : List Script) → ReadsAgent before.held name agent
        → From agent from inline listed outcome → PrintsWhatIsSo before after name from
    of-from name agent None inline listed reads of = printed name agent None None inline listed outcome reads refl written of
    of-from name agent (Some file) inline listed reads (unread is u) = no-fault JournalFile is
    of-from name agent (Some file) inline listed reads (refused text is r) = no-refusal JournalFile text is
    of-from name agent (Some file) inline listed reads (holds told held of) =
        printed name agent (Some file) (Some (values_left agent told.report)) inline listed outcome reads
        (values_left agent told.report, record { bytes = held.bytes; has = held.has; so = record { told = told; spells = held.so; left = refl } }, refl) written of

    of-scripts : (name : Text) (agent : Agent) (named from : Option Text) (inline : Bool) → ReadsAgent before.held name agent
        → OfScripts before.held before.file_faults after.file_faults agent named (From agent from inline) outcome → PrintsWhatIsSo before after name from
    of-scripts name agent None from inline reads of = of-from name agent from inline [] reads of
    of-scripts name agent (Some file) from inline reads (unread is u) = no-fault DevicesFile is
    of-scripts name agent (Some file) from inline reads (refused text is r) = no-refusal DevicesFile text is
    of-scripts name agent (Some file) from inline reads (holds listed held of) = of-from name agent from inline listed reads of

    of-run : (name : Text) (named : Option Text) (inline : Bool) (from : Option Text) (workers : Option ℕ)
        → IsCaused (Some (run name named inline from workers)) before after outcome
        → PrintsWhatIsSo before after name from
    of-run name named inline from workers (unread is u) = no-fault AgentFile is
    of-run name named inline from workers (refused text is r) = no-refusal AgentFile text is
    of-run name named inline from workers (holds agent reads comes) = of-scripts name agent named from inline reads comes

    abbrev Plans : Agent → ℕ → ℕ → Bool → List Script → Outcome → Type 0
    Plans agent depth fuel inline listed = PlannedRunOf agent depth fuel listed inline before.devices after.devices

    of-plannable : (name : Text) (agent : Agent) (depth fuel : ℕ) (named : Option Text) (inline : Bool) (b : Bool) → ReadsAgent before.held name agent
        → PlannableBy b (OfScripts before.held before.file_faults after.file_faults agent named (Plans agent depth fuel inline)) outcome → PrintsPlans before after name depth fuel
    of-plannable name agent depth fuel named inline true reads is = absurd (low status 3 (shown ∙ ap outcome_status is) (omega arith) (omega arith) ran)
    of-plannable name agent depth fuel None inline false reads of = plans-printed name agent depth fuel inline [] outcome reads written of
    of-plannable name agent depth fuel (Some file) inline false reads (unread is u) = no-fault DevicesFile is
    of-plannable name agent depth fuel (Some file) inline false reads (refused text is r) = no-refusal DevicesFile text is
    of-plannable name agent depth fuel (Some file) inline false reads (holds listed held of) = plans-printed name agent depth fuel inline listed outcome reads written of

    of-plan : (depth fuel : ℕ) (name : Text) (named : Option Text) (inline : Bool) → IsCaused (Some (plan depth fuel name named inline)) before after outcome
        → PrintsPlans before after name depth fuel
    of-plan depth fuel name named inline (unread is u) = no-fault AgentFile is
    of-plan depth fuel name named inline (refused text is r) = no-refusal AgentFile text is
    of-plan depth fuel name named inline (holds agent reads comes) = of-plannable name agent depth fuel named inline (has_block agent agent.main) reads comes

    of-command : (spelled : Option CommandLine) → IsCaused spelled before after outcome → PrintsSo spelled before after
    of-command None is = low status 2 (shown ∙ ap outcome_status is) (omega arith) (omega arith) ran
    of-command (Some (run name named inline from workers)) comes = of-run name named inline from workers comes
    of-command (Some (check name)) comes = tt
    of-command (Some (replay name journal)) comes = tt
    of-command (Some (ask name journal condition)) comes = tt
    of-command (Some (migrate name journal)) comes = tt
    of-command (Some (demo size)) comes = tt
    of-command (Some (team first second inline)) comes = tt
    of-command (Some (plan depth fuel name named inline)) comes = of-plan depth fuel name named inline comes

  of-report : (spelled : Option CommandLine) (outcome : Outcome) → IsCaused spelled before after outcome
      → Reports status (outcome_text outcome) (outcome_status outcome) before.taken after.taken before.sink_faults after.sink_faults
      → PrintsSo spelled before after
  of-report spelled outcome cause (inl (is, written, still)) = of-command outcome is written spelled cause
  of-report spelled outcome cause (inr (five, prefix, rose)) = absurd (low status 5 five (omega arith) (omega arith) ran)

pub runs-so : (status : ℕ) (before after : Outside) (spelled : Option CommandLine) → CallEnds status spelled before after → RunsAreSo status spelled before after
runs-so status before after spelled (inl reported) ran = of-report status before after ran spelled reported.outcome reported.cause reported.report
runs-so status before after spelled (inr starved) ran = absurd (low status 6 starved.answered (omega arith) (omega arith) ran)
