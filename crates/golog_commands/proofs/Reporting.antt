-- From what the parts of a call write of what they come to, to how the call ends.
use Rattle.std.proofs.Common.{◌≡◌, ℕ, Bool, true, false, List, Result, Ok, Err, IfOk, Option, Some, None, IsSome, ◌⊎◌, inl, inr, ◌++◌, refl, sym, ap, ◌∙◌, subst, arith, ◌<◌}
use Rattle.std.specs.Prelude.{IfSome, OnErr}
use Rattle.golog_base.specs.Known.{and_then_bytes}
use Rattle.golog_tree.specs.declared.agent.Agent.{Agent}
use Rattle.golog_semantics.specs.InSorts.{AreInSorts}
use Rattle.golog_semantics.specs.Restart.{started}
use Rattle.golog_semantics.specs.Text.{Text, head_text, report_text}
use Rattle.golog_semantics.specs.Truth.{Values}
use Rattle.golog_branch.specs.PlansInWorlds.{PlanJournalsAreSo}
use Rattle.golog_plan.specs.PlanTexts.{plan_text}
use Rattle.golog_device.specs.Slots.{Standing}
use Rattle.golog_words.specs.Commands.{CommandLine, run, check, replay, ask, migrate, demo, team, plan}
use Rattle.golog_commands.specs.declared.outcome.Outcome.{Outcome}
use Rattle.golog_commands.specs.declared.outcome.Outcome.TheVariants.{WordsRefused, Ran}
use Rattle.golog_commands.specs.declared.ready.Ready.{Ready}
use Rattle.golog_commands.specs.declared.ready.Unready.{Unready}
use Rattle.golog_commands.specs.declared.ready.Unready.TheVariants.{Ended, Memory}
use Rattle.golog_commands.specs.Demos.{Demonstrates}
use Rattle.golog_commands.specs.Inputs.{ReadsAgent, ReadsStart, scripts_for}
use Rattle.golog_commands.specs.Outcome.{CallEnds, AddsHead, HoldsRun, HoldsPlanned, IfEnded, IsUntouched, LeavesText, Never, OfAgent, OfFrom, OfPlannable, OfScripts, Outside, IsReported, LeavesDevices, Reports, outcome_status, outcome_text, uses_devices}
use Rattle.golog_commands.proofs.Begun.{none-served}
use Rattle.golog_commands.proofs.Causes.{IsCaused}
use Rattle.golog_commands.specs.Runs.{IsReportOf, head_of}
use Rattle.golog_commands.specs.Plans.{IsPlannedOf}
use Rattle.golog_commands.specs.Writing.{IfReported, ReportsUnready, WritesHead, WritesJournal, WritesNothing, WritesReport}
use Rattle.golog_commands.proofs.OutcomeLemmas.{never-comes, run-comes}
use Rattle.golog_commands.proofs.PlanLemmas.{no-plan-comes, plan-comes, planned-run}
use Rattle.golog_commands.proofs.Reported.{ready-run}
use Rattle.golog_lead.proofs.Writing.{and_then-none}

-- devices that had no part
untouched : {E : Type 0} (olds news : List Standing) (r : Result Outcome E) → news ≡ olds → IfOk r (IsUntouched olds news)
untouched olds news (Ok outcome) same = λ none. same
untouched olds news (Err e) same = tt

-- a demo has the devices take part
demo-untouched : {E : Type 0} (size : ℕ) (olds news : List Standing) (r : Result Outcome E) → IfOk r (Demonstrates size olds news) → IfOk r (IsUntouched olds news)
demo-untouched size olds news (Ok outcome) made = λ none. let no : true ≡ false = sym (ap uses_devices made.is) ∙ none in absurd (cc)
demo-untouched size olds news (Err e) made = made

pub outcome-nothing : {E F : Type 0} (r : Result Outcome E) (s : Result ℕ F) (old new : Option Text) (before after : ℕ) → IfReported r s old new before after → OnErr s (WritesNothing old new before after)
outcome-nothing (Ok outcome) (Ok status) old new before after reports = tt
outcome-nothing (Ok outcome) (Err f) old new before after reports = absurd reports
outcome-nothing (Err e) (Ok status) old new before after reports = absurd reports
outcome-nothing (Err e) (Err f) old new before after reports = reports

pub unready-nothing : {F : Type 0} (fault : Unready) (s : Result ℕ F) (old new : Option Text) (before after : ℕ) → ReportsUnready fault s old new before after → OnErr s (WritesNothing old new before after)
unready-nothing (Ended outcome) (Ok status) old new before after reports = tt
unready-nothing (Ended outcome) (Err f) old new before after reports = absurd reports
unready-nothing Memory (Ok status) old new before after reports = absurd reports
unready-nothing Memory (Err f) old new before after reports = reports

module _ (before after : Outside) where
  -- what a command comes to
  outcome-reported : {E F : Type 0} (spelled : Option CommandLine) (r : Result Outcome E) (s : Result ℕ F) → IfOk r (IsCaused spelled before after)
      → IfOk r (IsUntouched before.devices after.devices) → IfReported r s before.taken after.taken before.sink_faults after.sink_faults
      → IfOk s (λ status. IsReported status spelled before after)
  outcome-reported spelled (Ok outcome) (Ok status) cause still reports = record { outcome = outcome; cause = cause; untouched = still; report = reports }
  outcome-reported spelled (Ok outcome) (Err f) cause still reports = absurd reports
  outcome-reported spelled (Err e) (Ok status) cause still reports = absurd reports
  outcome-reported spelled (Err e) (Err f) cause still reports = tt

  -- of one in which the devices have no part
  pub plain-reported : {E F : Type 0} (spelled : Option CommandLine) (r : Result Outcome E) (s : Result ℕ F) → after.devices ≡ before.devices → IfOk r (IsCaused spelled before after)
      → IfReported r s before.taken after.taken before.sink_faults after.sink_faults → IfOk s (λ status. IsReported status spelled before after)
  plain-reported spelled r s same cause reports = outcome-reported spelled r s cause (untouched before.devices after.devices r same) reports

  -- and of a demo
  pub demo-reported : {E F : Type 0} (size : ℕ) (r : Result Outcome E) (s : Result ℕ F) → IfOk r (Demonstrates size before.devices after.devices)
      → IfReported r s before.taken after.taken before.sink_faults after.sink_faults → IfOk s (λ status. IsReported status (Some (demo size)) before after)
  demo-reported size r s made reports =
      outcome-reported (Some (demo size)) r s made (demo-untouched size before.devices after.devices r made) reports

  -- words that are no command
  pub words-reported : (spelled : Option CommandLine) (status : ℕ) → spelled ≡ None → after.devices ≡ before.devices
      → Reports status (outcome_text WordsRefused) (outcome_status WordsRefused) before.taken after.taken before.sink_faults after.sink_faults
      → IsReported status spelled before after
  words-reported None status none same reports = record { outcome = WordsRefused; cause = refl; untouched = λ no. same; report = reports }
  words-reported (Some command) status none same reports = let no : ⊥ = cc in absurd no

  -- ---- a run

  module _ (name : Text) (named : Option Text) (inline : Bool) (from : Option Text) (workers : Option ℕ) where
    -- why its files hold none
    pub unready-reported : {F : Type 0} (fault : Unready) (s : Result ℕ F)
        → IfEnded fault (OfAgent before.held before.file_faults after.file_faults name (λ a. OfScripts before.held before.file_faults after.file_faults a named (λ listed. OfFrom before.held before.file_faults after.file_faults a from Never)))
        → after.devices ≡ before.devices → ReportsUnready fault s before.taken after.taken before.sink_faults after.sink_faults
        → IfOk s (λ status. IsReported status (Some (run name named inline from workers)) before after)
    unready-reported (Ended outcome) (Ok status) ended same reports = record {
      outcome = outcome;
      cause = never-comes before.held before.file_faults after.file_faults before.devices after.devices name named inline from workers outcome ended;
      untouched = λ none. same;
      report = reports;
    }
    unready-reported (Ended outcome) (Err f) ended same reports = absurd reports
    unready-reported Memory (Ok status) ended same reports = absurd reports
    unready-reported Memory (Err f) ended same reports = tt

    module _ (ready : Ready) (has : HoldsRun before.held name named from ready) where
      abbrev Reports-it : ℕ → Type 0
      Reports-it =
          WritesReport (IsReportOf ready.agent (scripts_for ready.agent ready.scripts) inline before.devices after.devices) ready.agent (head_of ready.agent ready.start)
          before.taken after.taken before.sink_faults after.sink_faults

      run-reported : (status : ℕ) → Reports-it status → IsReported status (Some (run name named inline from workers)) before after
      run-reported status writes =
          let text = head_of ready.agent ready.start ++ report_text ready.agent writes.report in
          let ran =
          ready-run has.own ready.agent ready.start has.begins.is ready.scripts inline before.devices after.devices writes.report text writes.answer has.begins.formed has.begins.sorts writes.so refl
          writes.ended in
          record {
            outcome = Ran text writes.answer;
            cause =
                run-comes before.held before.file_faults after.file_faults before.devices after.devices name named inline from workers ready has (Ran text writes.answer) ran;
            untouched = λ none. let no : true ≡ false = none in absurd (cc);
            report = writes.written;
          }

      -- the run of what they hold
      pub runs-reported : {E : Type 0} (r : Result ℕ E) → IfOk r Reports-it → IfOk r (λ status. IsReported status (Some (run name named inline from workers)) before after)
      runs-reported (Ok status) writes = run-reported status writes
      runs-reported (Err e) writes = tt

      -- of which the head alone was written
      head-left : (own : Agent) (start : Option Values) → ReadsStart before.held own from start → IfSome start (AreInSorts own) → ReadsAgent before.held name own
          → after.taken ≡ and_then_bytes before.taken (head_of own start)
          → (after.taken ≡ before.taken) ⊎ AddsHead name from before after
      head-left own None left sorts reads added = inl (added ∙ and_then-none before.taken)
      head-left own (Some values) left sorts reads added =
          inr (record { agent = own; reads = reads; values = values; left = left; sorts = sorts; added = added })

      -- the head of the agent that was restarted is that of the agent
      own-head : (own : Agent) (start : Option Values) → head_of (started own start) start ≡ head_of own start
      unfolding head_text
      own-head own None = refl
      own-head own (Some values) = refl

      none-or-head : (after.taken ≡ before.taken) ⊎ (after.taken ≡ and_then_bytes before.taken (head_of ready.agent ready.start))
          → (after.taken ≡ before.taken) ⊎ AddsHead name from before after
      none-or-head (inl same) = inl same
      none-or-head (inr added) =
          head-left has.own ready.start has.begins.start_so has.begins.sorts has.agent_so
          (added ∙ ap (and_then_bytes before.taken) (ap (λ a. head_of a ready.start) has.begins.is ∙ own-head has.own ready.start))

      -- what is left of a run over threads for which memory was wanting
      pub left-written : {E : Type 0} (r : Result ℕ E) → inline ≡ false
          → OnErr r (WritesHead (head_of ready.agent ready.start) before.taken after.taken before.sink_faults after.sink_faults)
          → OnErr r (LeavesText (Some (run name named inline from workers)) before after)
      left-written (Ok status) over_threads writes = tt
      left-written (Err e) over_threads writes = threads (none-or-head writes.0)
        where
          threads : (after.taken ≡ before.taken) ⊎ AddsHead name from before after → (after.taken ≡ before.taken) ⊎ ((inline ≡ false) × AddsHead name from before after)
          threads (inl same) = inl same
          threads (inr head) = inr (over_threads, head)

  -- ---- a run that follows plans

  module _ (depth fuel : ℕ) (name : Text) (named : Option Text) (inline : Bool) where
    -- why its files hold none
    pub unready-planned : {F : Type 0} (fault : Unready) (s : Result ℕ F)
        → IfEnded fault (OfAgent before.held before.file_faults after.file_faults name (λ a. OfPlannable a (OfScripts before.held before.file_faults after.file_faults a named Never)))
        → after.devices ≡ before.devices → ReportsUnready fault s before.taken after.taken before.sink_faults after.sink_faults
        → IfOk s (λ status. IsReported status (Some (plan depth fuel name named inline)) before after)
    unready-planned (Ended outcome) (Ok status) ended same reports = record {
      outcome = outcome;
      cause = no-plan-comes before.held before.file_faults after.file_faults before.devices after.devices depth fuel name named inline outcome ended;
      untouched = λ none. same;
      report = reports;
    }
    unready-planned (Ended outcome) (Err f) ended same reports = absurd reports
    unready-planned Memory (Ok status) ended same reports = absurd reports
    unready-planned Memory (Err f) ended same reports = tt

    module _ (ready : Ready) (has : HoldsPlanned before.held name named ready) where
      abbrev Reports-plans : ℕ → Type 0
      Reports-plans =
          WritesJournal (IsPlannedOf ready.agent depth fuel (scripts_for ready.agent ready.scripts) inline before.devices after.devices) (plan_text ready.agent depth fuel)
          before.taken after.taken before.sink_faults after.sink_faults

      plan-reported : PlanJournalsAreSo → (status : ℕ) → Reports-plans status → IsReported status (Some (plan depth fuel name named inline)) before after
      plan-reported law status writes =
          let text = plan_text ready.agent depth fuel writes.journal in
          record {
            outcome = Ran text writes.answer;
            cause =
                plan-comes before.held before.file_faults after.file_faults before.devices after.devices depth fuel name named inline ready has (Ran text writes.answer)
                (planned-run law ready.agent depth fuel ready.scripts inline before.devices after.devices writes.journal writes.answer has.formed has.plannable writes.so writes.ended);
            untouched = λ none. let no : true ≡ false = none in absurd (cc);
            report = writes.written;
          }

      -- the run of what they hold
      pub plans-reported : {E : Type 0} → PlanJournalsAreSo → (r : Result ℕ E) → IfOk r Reports-plans → IfOk r (λ status. IsReported status (Some (plan depth fuel name named inline)) before after)
      plans-reported law (Ok status) writes = plan-reported law status writes
      plans-reported law (Err e) writes = tt

-- ---- a call

-- what is so is so where there is nothing
pub on-err : {A E : Type 0} (r : Result A E) (P : Type 0) → P → OnErr r P
on-err (Ok a) P so = tt
on-err (Err e) P so = so

-- devices to which nothing was done
pub left-alone : (spelled : Option CommandLine) (standings : List Standing) → LeavesDevices spelled standings standings
left-alone None standings = tt
left-alone (Some (run name named inline from workers)) standings = none-served standings
left-alone (Some (check name)) standings = refl
left-alone (Some (replay name journal)) standings = refl
left-alone (Some (ask name journal condition)) standings = refl
left-alone (Some (migrate name journal)) standings = refl
left-alone (Some (demo size)) standings = tt
left-alone (Some (team first second inline)) standings = refl
left-alone (Some (plan depth fuel name named inline)) standings = none-served standings

-- nothing that was written
pub none-written : (spelled : Option CommandLine) (before after : Outside) → after.taken ≡ before.taken → LeavesText spelled before after
none-written None before after same = same
none-written (Some (run name named inline from workers)) before after same = inl same
none-written (Some (check name)) before after same = same
none-written (Some (replay name journal)) before after same = same
none-written (Some (ask name journal condition)) before after same = same
none-written (Some (migrate name journal)) before after same = same
none-written (Some (demo size)) before after same = same
none-written (Some (team first second inline)) before after same = same
none-written (Some (plan depth fuel name named inline)) before after same = same

pub nothing-left : {E : Type 0} (spelled : Option CommandLine) (before after : Outside) (r : Result ℕ E)
    → OnErr r (WritesNothing before.taken after.taken before.sink_faults after.sink_faults) → OnErr r (LeavesText spelled before after)
nothing-left spelled before after (Ok status) nothing = tt
nothing-left spelled before after (Err e) nothing = none-written spelled before after nothing.0

pub no-more-faults : {E : Type 0} (old new : Option Text) (before after : ℕ) (r : Result ℕ E) → OnErr r (WritesNothing old new before after) → OnErr r (after ≡ before)
no-more-faults old new before after (Ok status) nothing = tt
no-more-faults old new before after (Err e) nothing = nothing.1

pub head-no-faults : {E : Type 0} (head : Text) (old new : Option Text) (before after : ℕ) (r : Result ℕ E) → OnErr r (WritesHead head old new before after) → OnErr r (after ≡ before)
head-no-faults head old new before after (Ok status) writes = tt
head-no-faults head old new before after (Err e) writes = writes.1

-- what a call comes to that has answered, or lacked memory
pub call-ends : {E : Type 0} (spelled : Option CommandLine) (before after : Outside) (r : Result ℕ E) (status : ℕ) → IfOk r (λ answer. IsReported answer spelled before after)
    → OnErr r (IsSome spelled) → OnErr r (LeavesText spelled before after) → OnErr r (after.sink_faults ≡ before.sink_faults)
    → OnErr r (LeavesDevices spelled before.devices after.devices) → IfOk r (λ answer. status ≡ answer) → OnErr r (status ≡ 6) → CallEnds status spelled before after
call-ends spelled before after (Ok answer) status reported command nothing still left is six = inl (subst (λ s. IsReported s spelled before after) (sym is) reported)
call-ends spelled before after (Err e) status reported command nothing still left is six =
    inr (record { answered = six; command = command; nothing = nothing; no_fault = still; devices = left })

-- a count of faults of the sink that rose in a call gives 5
pub fault-first : (status : ℕ) (spelled : Option CommandLine) (before after : Outside) → CallEnds status spelled before after
    → before.sink_faults < after.sink_faults → status ≡ 5
fault-first status spelled before after (inl reported) rose = by reported.report
  where
    by : Reports status (outcome_text reported.outcome) (outcome_status reported.outcome) before.taken after.taken before.sink_faults after.sink_faults → status ≡ 5
    by (inl (shown, written, still)) = absurd (omega (arith, still, rose))
    by (inr (five, prefix, cut)) = five
fault-first status spelled before after (inr starved) rose =
    let still = starved.no_fault in
    absurd (omega (arith, still, rose))
