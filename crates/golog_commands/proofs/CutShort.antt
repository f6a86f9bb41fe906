-- A call of a run has written the beginning of the text of an online execution.
use Rattle.std.proofs.Common.{◌≡◌, ℕ, Bool, List, [], ◌∷◌, ◌++◌, Option, None, Some, false, ◌⊎◌, inl, inr, refl, sym, ap, ◌∙◌, subst, arith, length}
use Rattle.std.specs.Prelude.{IfSome, take, drop}
use Rattle.std.proofs.lemmas.Bool.{le-leb}
use Rattle.std.proofs.lemmas.List.{take-append-drop}
use Rattle.std.proofs.Math.Seq.{take-length}
use Rattle.golog_base.specs.Known.{AddsPrefix, and_then_bytes}
use Rattle.golog_tree.specs.declared.agent.Agent.{Agent}
use Rattle.golog_semantics.specs.declared.journal.Entry.{Entry}
use Rattle.golog_semantics.specs.Journal.{Journal}
use Rattle.golog_semantics.specs.declared.journal.Report.{Report}
use Rattle.golog_semantics.specs.InSorts.{AreInSorts}
use Rattle.golog_semantics.specs.Restart.{journal_text, values_left}
use Rattle.golog_semantics.specs.Text.{Text, head_text, report_text}
use Rattle.golog_semantics.specs.Truth.{Values}
use Rattle.golog_semantics.specs.Execution.{IsOnlineRun, BeginsOnline}
use Rattle.golog_semantics.specs.BlockFree.{has_block}
use Rattle.golog_script.specs.declared.scripts.Script.{Script}
use Rattle.golog_file.specs.Spelled.{SpellsAgent, IsFirstRefusal}
use Rattle.golog_plan.specs.PlanTexts.{plan_text}
use Rattle.golog_lead.proofs.Writing.{and_then-none}
use Rattle.golog_words.specs.Commands.{CommandLine, run, check, replay, ask, migrate, demo, team, plan}
use Rattle.golog_commands.specs.declared.outcome.Input.TheVariants.{Agent as AgentFile, Devices as DevicesFile, Journal as JournalFile}
use Rattle.golog_commands.specs.declared.outcome.Outcome.{Outcome}
use Rattle.golog_commands.specs.declared.outcome.Outcome.TheVariants.{WordsRefused, ReadFault, Refused, Ran, Checked, Judged, Asked, Migrated, Demonstrated, Teamed}
use Rattle.golog_commands.specs.declared.ready.Told.{Told}
use Rattle.golog_commands.specs.Inputs.{LeavesValues, ReadsAgent, ReadsStart, SpellsJournal, SpellsScripts, RefusesJournal, RefusesScripts}
use Rattle.golog_commands.specs.Outcome.{AddsHead, Outside, CallEnds, IsReported, OfFrom, OfPlannable, OfScripts, PlannableBy, PlannedRunOf, RunOf, Reports, outcome_text, outcome_status}
use Rattle.golog_commands.specs.CutShort.{AddsBeginning, AddsPlanned, AddsRun, CutShortBeginsOnline, GivesAgent, GivesScripts, GivesStart, LinesBegin}
use Rattle.golog_commands.proofs.Causes.{IsCaused}
use Rattle.golog_commands.proofs.ExactLemmas.{agents-exclude, agents-one, journals-exclude, journals-one, scripts-exclude, scripts-one, file-spells, read_so}

-- the first bytes of the text of an online execution begin one
begins : (agent : Agent) (start : Option Values) (text : Text) (status n : ℕ) → IsOnlineRun agent start text status → BeginsOnline agent start (take n text)
begins agent start text status n whole = record {
  report = whole.report;
  begun = whole.begun;
  rest = drop n text;
  fits = whole.spelled.fits;
  spelled = sym whole.spelled.text ∙ sym (take-append-drop n text);
  online = record { entries = whole.online.entries };
}

module _ (inline : Bool) (before after : Outside) (agent : Agent) (listed : List Script) (start : Option Values) where
  abbrev Runs : Agent → List Script → Option Values → Outcome → Type 0
  Runs a l s = RunOf a s l inline before.devices after.devices

  abbrev From : Option Text → Agent → List Script → Outcome → Type 0
  From from a l = OfFrom before.held before.file_faults after.file_faults a from (Runs a l)

  of-from : (from : Option Text) (outcome : Outcome) → GivesStart from before after agent start → From from agent listed outcome → Runs agent listed start outcome
  of-from None outcome gives ran = subst (λ s. Runs agent listed s outcome) (sym gives) ran
  of-from (Some name) outcome (bytes, values, read, leaves, is) comes =
      subst (λ s. Runs agent listed s outcome) (sym (is ∙ ap Some leaves.left))
      (file-spells before after JournalFile name (RefusesJournal agent) (SpellsJournal agent) (journals-exclude agent) (journals-one agent) outcome
      (λ told. Runs agent listed (Some (values_left agent told.report))) bytes leaves.told read leaves.spells comes)

  of-scripts : (devices from : Option Text) (outcome : Outcome) → GivesScripts devices before after agent listed → GivesStart from before after agent start
      → OfScripts before.held before.file_faults after.file_faults agent devices (From from agent) outcome → Runs agent listed start outcome
  of-scripts None from outcome gives begins comes = of-from from outcome begins (subst (λ l. From from agent l outcome) (sym gives) comes)
  of-scripts (Some name) from outcome (bytes, read, spells) begins comes =
      of-from from outcome begins
      (file-spells before after DevicesFile name (RefusesScripts agent) (SpellsScripts agent) (scripts-exclude agent) (scripts-one agent) outcome
      (From from agent) bytes listed read spells comes)

  -- what comes of the files is a run
  is-run : (name : Text) (devices from : Option Text) (workers : Option ℕ) (outcome : Outcome) → GivesAgent name before after agent → GivesScripts devices before after agent listed
      → GivesStart from before after agent start → IsCaused (Some (run name devices inline from workers)) before after outcome → Runs agent listed start outcome
  is-run name devices from workers outcome gives scripts begins cause =
      of-scripts devices from outcome scripts begins
      (file-spells before after AgentFile name IsFirstRefusal SpellsAgent agents-exclude agents-one outcome
      (λ a. OfScripts before.held before.file_faults after.file_faults a devices (From from a)) gives.bytes agent gives.read gives.spells cause)

  adds : (outcome : Outcome) → Runs agent listed start outcome → AddsPrefix before.taken after.taken (outcome_text outcome)
      → AddsBeginning agent start before.taken after.taken
  unfolding begins
  adds (Ran text answer) of (n, within, added) = record {
    bytes = take n text;
    begins = begins agent start text (outcome_status (Ran text answer)) n of.online;
    so = of.so;
    added = added;
  }
  adds WordsRefused of prefix = absurd of
  adds (ReadFault input) of prefix = absurd of
  adds (Refused input text) of prefix = absurd of
  adds (Checked text) of prefix = absurd of
  adds (Judged verdict text) of prefix = absurd of
  adds (Asked truth) of prefix = absurd of
  adds (Migrated text) of prefix = absurd of
  adds (Demonstrated text) of prefix = absurd of
  adds (Teamed text first second) of prefix = absurd of

  of-report : (status : ℕ) (outcome : Outcome) → Runs agent listed start outcome
      → Reports status (outcome_text outcome) (outcome_status outcome) before.taken after.taken before.sink_faults after.sink_faults
      → AddsBeginning agent start before.taken after.taken
  of-report status outcome of (inl (is, written, still)) =
      adds outcome of (length (outcome_text outcome), omega arith, written ∙ ap (and_then_bytes before.taken) (sym (take-length (outcome_text outcome))))
  of-report status outcome of (inr (five, prefix, rose)) = adds outcome of prefix

-- ---- nothing, or the head alone

no-entry : (before later : Journal) (e : Entry) → [] ≡ before ++ e ∷ later → ⊥
no-entry [] later e is = cc
no-entry (x ∷ before) later e is = cc

-- a journal of this start without entries
abbrev empty : Option Values → Report
empty start = record { entries = []; runs = []; start = start }

-- it begins a text, of which these are the first bytes
empty-adds : (agent : Agent) (start : Option Values) (bytes rest : Text) (old new : Option Text) → IfSome start (AreInSorts agent)
    → journal_text agent (empty start) ≡ bytes ++ rest → new ≡ and_then_bytes old bytes → AddsBeginning agent start old new
empty-adds agent start bytes rest old new sorts spelled added = record {
  bytes = bytes;
  begins = record {
    report = empty start;
    begun = refl;
    rest = rest;
    fits = record { entries = refl; runs = refl; in_order = refl; in_bounds = le-leb 0 2097152 (omega arith); start = sorts };
    spelled = spelled;
    online = record { entries = λ before e later is. absurd (no-entry before later e is) };
  };
  so = λ before later e entries is world agrees. absurd (no-entry before later e is);
  added = added;
}

-- nothing is a beginning too
nothing-adds : (agent : Agent) (old new : Option Text) → new ≡ old → AddsBeginning agent None old new
nothing-adds agent old new same =
    empty-adds agent None [] (journal_text agent (empty None)) old new tt refl (same ∙ sym (and_then-none old))

-- so is the head alone
empty-text : (agent : Agent) (values : Values) → journal_text agent (empty (Some values)) ≡ head_text agent values ++ []
unfolding report_text
empty-text agent values = refl

head-adds : (agent : Agent) (values : Values) (old new : Option Text) → AreInSorts agent values → new ≡ and_then_bytes old (head_text agent values)
    → AddsBeginning agent (Some values) old new
head-adds agent values old new sorts added =
    empty-adds agent (Some values) (head_text agent values) [] old new sorts (empty-text agent values) added

module _ (name : Text) (before after : Outside) (agent : Agent) (gives : GivesAgent name before after agent) where
  -- the agent file spells no other agent
  same-agent : (other : Agent) → ReadsAgent before.held name other → other ≡ agent
  same-agent other reads =
      agents-one gives.bytes agent other gives.spells (read_so name gives.bytes before after gives.read (λ bytes. SpellsAgent bytes other) reads)

  -- the journal file leaves no other values
  same-start : (from : Option Text) (start : Option Values) (values : Values) → GivesStart from before after agent start → ReadsStart before.held agent from (Some values)
      → start ≡ Some values
  same-start None start values begins left = absurd (cc)
  same-start (Some file) start values (bytes, own, read, leaves, is) (other, reads, same) =
      let left : LeavesValues agent bytes other = read_so file bytes before after read (λ b. LeavesValues agent b other) reads in
      let tells : left.told ≡ leaves.told = journals-one agent bytes leaves.told left.told leaves.spells left.spells in
      let others : other ≡ own = left.left ∙ ap (λ (t : Told). values_left agent t.report) tells ∙ sym leaves.left in
      is ∙ ap Some (sym others) ∙ sym same

  head-begins : (from : Option Text) (start : Option Values) → GivesStart from before after agent start → AddsHead name from before after
      → AddsBeginning agent start before.taken after.taken
  head-begins from start begins head =
      let same = same-agent head.agent head.reads in
      subst (λ s. AddsBeginning agent s before.taken after.taken)
      (sym (same-start from start head.values begins (subst (λ a. ReadsStart before.held a from (Some head.values)) same head.left)))
      (head-adds agent head.values before.taken after.taken (subst (λ a. AreInSorts a head.values) same head.sorts)
      (head.added ∙ ap (λ a. and_then_bytes before.taken (head_text a head.values)) same))

-- ---- a call

run-adds : (agent : Agent) (start : Option Values) (old new : Option Text) → AddsBeginning agent start old new → AddsRun agent start old new
run-adds agent None old new adds = adds
run-adds agent (Some values) old new adds = inr adds

nothing-runs : (agent : Agent) (start : Option Values) (old new : Option Text) → new ≡ old → AddsRun agent start old new
nothing-runs agent None old new same = nothing-adds agent old new same
nothing-runs agent (Some values) old new same = inl same

module _ (name : Text) (devices : Option Text) (inline : Bool) (from : Option Text) (workers : Option ℕ) (before after : Outside) (agent : Agent) (listed : List Script) (start : Option Values)
    (gives : GivesAgent name before after agent) (scripts : GivesScripts devices before after agent listed) (begun : GivesStart from before after agent start) where
  reported-begins : (status : ℕ) → IsReported status (Some (run name devices inline from workers)) before after → AddsBeginning agent start before.taken after.taken
  reported-begins status reported =
      of-report inline before after agent listed start status reported.outcome
      (is-run inline before after agent listed start name devices from workers reported.outcome gives scripts begun reported.cause) reported.report

  starved-begins : (after.taken ≡ before.taken) ⊎ ((inline ≡ false) × AddsHead name from before after) → AddsRun agent start before.taken after.taken
  starved-begins (inl same) = nothing-runs agent start before.taken after.taken same
  starved-begins (inr head) =
      run-adds agent start before.taken after.taken (head-begins name before after agent gives from start begun head.1)

  run-begins : (status : ℕ) → CallEnds status (Some (run name devices inline from workers)) before after → AddsRun agent start before.taken after.taken
  run-begins status (inl reported) = run-adds agent start before.taken after.taken (reported-begins status reported)
  run-begins status (inr starved) = starved-begins starved.nothing

-- ---- a run that follows plans

module _ (depth fuel : ℕ) (inline : Bool) (before after : Outside) (agent : Agent) (listed : List Script) where
  abbrev Plans : Agent → List Script → Outcome → Type 0
  Plans a l = PlannedRunOf a depth fuel l inline before.devices after.devices

  of-plan-scripts : (devices : Option Text) (outcome : Outcome) → GivesScripts devices before after agent listed
      → OfScripts before.held before.file_faults after.file_faults agent devices (Plans agent) outcome → Plans agent listed outcome
  of-plan-scripts None outcome gives comes = subst (λ l. Plans agent l outcome) (sym gives) comes
  of-plan-scripts (Some name) outcome (bytes, read, spells) comes =
      file-spells before after DevicesFile name (RefusesScripts agent) (SpellsScripts agent) (scripts-exclude agent) (scripts-one agent) outcome
      (Plans agent) bytes listed read spells comes

  unblocked : (b : Bool) (P : Outcome → Type 0) (outcome : Outcome) → b ≡ false → PlannableBy b P outcome → P outcome
  unblocked b P outcome free comes = subst (λ v. PlannableBy v P outcome) free comes

  -- what comes of the files is a run
  is-plan : (name : Text) (devices : Option Text) (outcome : Outcome) → GivesAgent name before after agent → has_block agent agent.main ≡ false
      → GivesScripts devices before after agent listed → IsCaused (Some (plan depth fuel name devices inline)) before after outcome → Plans agent listed outcome
  is-plan name devices outcome gives free scripts cause =
      of-plan-scripts devices outcome scripts
      (unblocked (has_block agent agent.main) (OfScripts before.held before.file_faults after.file_faults agent devices (Plans agent)) outcome free
      (file-spells before after AgentFile name IsFirstRefusal SpellsAgent agents-exclude agents-one outcome
      (λ a. OfPlannable a (OfScripts before.held before.file_faults after.file_faults a devices (Plans a))) gives.bytes agent gives.read gives.spells cause))

  plan-adds : (outcome : Outcome) → Plans agent listed outcome → AddsPrefix before.taken after.taken (outcome_text outcome)
      → AddsPlanned agent depth fuel before.taken after.taken
  plan-adds (Ran text answer) of (n, within, added) = record {
    journal = of.journal;
    bytes = take n text;
    rest = drop n text;
    begins = sym of.is ∙ sym (take-append-drop n text);
    planned = of.run.planned.entries;
    so = of.so;
    added = added;
  }
  plan-adds WordsRefused of prefix = absurd of
  plan-adds (ReadFault input) of prefix = absurd of
  plan-adds (Refused input text) of prefix = absurd of
  plan-adds (Checked text) of prefix = absurd of
  plan-adds (Judged verdict text) of prefix = absurd of
  plan-adds (Asked truth) of prefix = absurd of
  plan-adds (Migrated text) of prefix = absurd of
  plan-adds (Demonstrated text) of prefix = absurd of
  plan-adds (Teamed text first second) of prefix = absurd of

  of-plan-report : (status : ℕ) (outcome : Outcome) → Plans agent listed outcome
      → Reports status (outcome_text outcome) (outcome_status outcome) before.taken after.taken before.sink_faults after.sink_faults
      → AddsPlanned agent depth fuel before.taken after.taken
  of-plan-report status outcome of (inl (is, written, still)) =
      plan-adds outcome of (length (outcome_text outcome), omega arith, written ∙ ap (and_then_bytes before.taken) (sym (take-length (outcome_text outcome))))
  of-plan-report status outcome of (inr (five, prefix, rose)) = plan-adds outcome of prefix

-- nothing is a beginning too
nothing-planned : (agent : Agent) (depth fuel : ℕ) (old new : Option Text) → new ≡ old → AddsPlanned agent depth fuel old new
nothing-planned agent depth fuel old new same = record {
  journal = [];
  bytes = [];
  rest = plan_text agent depth fuel [];
  begins = refl;
  planned = record { entries = λ before e later is. absurd (no-entry before later e is) };
  so = λ before later e start is world agrees. absurd (no-entry before later e is);
  added = same ∙ sym (and_then-none old);
}

plan-begins : (depth fuel : ℕ) (name : Text) (devices : Option Text) (inline : Bool) (before after : Outside) (agent : Agent) (listed : List Script) (status : ℕ)
    → GivesAgent name before after agent → has_block agent agent.main ≡ false → GivesScripts devices before after agent listed
    → CallEnds status (Some (plan depth fuel name devices inline)) before after → AddsPlanned agent depth fuel before.taken after.taken
plan-begins depth fuel name devices inline before after agent listed status gives free scripts (inl reported) =
    of-plan-report depth fuel inline before after agent listed status reported.outcome
    (is-plan depth fuel inline before after agent listed name devices reported.outcome gives free scripts reported.cause) reported.report
plan-begins depth fuel name devices inline before after agent listed status gives free scripts (inr starved) =
    nothing-planned agent depth fuel before.taken after.taken starved.nothing

-- what a run has written, whatever its status
pub lines-begin : (status : ℕ) (before after : Outside) (spelled : Option CommandLine) → CallEnds status spelled before after → LinesBegin spelled before after
lines-begin status before after None ends = tt
lines-begin status before after (Some (run name devices inline from workers)) ends =
    λ agent listed start gives scripts begun. run-begins name devices inline from workers before after agent listed start gives scripts begun status ends
lines-begin status before after (Some (check name)) ends = tt
lines-begin status before after (Some (replay name journal)) ends = tt
lines-begin status before after (Some (ask name journal condition)) ends = tt
lines-begin status before after (Some (migrate name journal)) ends = tt
lines-begin status before after (Some (demo size)) ends = tt
lines-begin status before after (Some (team first second inline)) ends = tt
lines-begin status before after (Some (plan depth fuel name devices inline)) ends =
    λ agent listed gives free scripts. plan-begins depth fuel name devices inline before after agent listed status gives free scripts ends

pub cut_short : CutShortBeginsOnline
cut_short name devices inline from workers before after agent listed start gives scripts begun (inl reported) =
    reported-begins name devices inline from workers before after agent listed start gives scripts begun 5 reported
cut_short name devices inline from workers before after agent listed start gives scripts begun (inr starved) =
    let six = starved.answered in absurd (omega (arith, six))
