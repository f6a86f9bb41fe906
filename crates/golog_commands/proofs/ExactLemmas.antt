-- The causes exclude one another, and each outcome has one status.
use Rattle.std.proofs.Common.{◌≡◌, Bool, true, false, true≢false, ℕ, zero, suc, ◌==◌, if◌then◌else◌, ◌≤◌, List, [], Option, Some, None, Ok, Err, ◌⊎◌, inl, inr, arith, sym, ap, ◌∙◌, refl, subst, IsSome}
use Rattle.std.proofs.lemmas.Bool.{ne_eqb}
use Rattle.golog_base.specs.Faults.{Rose}
use Rattle.golog_base.specs.Files.{HasNone, FileHas, bytes_of}
use Rattle.golog_base.specs.Known.{and_then_bytes}
use Rattle.golog_base.specs.declared.mem_files.HeldFile.{HeldFile}
use Rattle.golog_tree.specs.declared.agent.Agent.{Agent}
use Rattle.golog_tree.specs.declared.cond.Cond.{Cond}
use Rattle.golog_tree.specs.declared.draft.DraftTheory.{DraftTheory}
use Rattle.golog_semantics.specs.BlockFree.{has_block}
use Rattle.golog_semantics.specs.Text.{Text}
use Rattle.golog_semantics.specs.Restart.{journal_text, migrated, started, values_left}
use Rattle.golog_semantics.specs.Truth.{Values}
use Rattle.golog_semantics.specs.declared.journal.Answer.{Answer}
use Rattle.golog_semantics.specs.declared.journal.Why.{Why}
use Rattle.golog_semantics.specs.declared.journal.Answer.TheVariants.{Done, Stuck, Unknown, Depth, Fuel, Unanswered, Full, Deep, Memory}
use Rattle.golog_semantics.specs.Execution.{status_of as answer_status}
use Rattle.golog_script.specs.declared.scripts.Script.{Script}
use Rattle.golog_file.specs.Spelled.{SpellsAgent, FormSpellsWith, IsFirstRefusal}
use Rattle.golog_file.specs.Conditions.{SpellsCond, RefusesCond}
use Rattle.golog_file.specs.Laws.{OneCondIsSpelled, SpelledCondIsUnrefused}
use Rattle.golog_file.specs.declared.reading.Understood.{Understood}
use Rattle.golog_file.proofs.Answers.{without-theory}
use Rattle.golog_file.proofs.Excluded.{excluded, one-agent, one-form, theory-same}
use Rattle.golog_check_text.specs.Counts.{check_text}
use Rattle.golog_semantics.specs.declared.journal.Verdict.TheVariants.{Online, Not}
use Rattle.golog_team.specs.declared.shape.TeamRefusal.{TeamRefusal}
use Rattle.golog_team.specs.Shapes.{team_refusal}
use Rattle.golog_words.specs.Commands.{CommandLine, run, check, replay, ask, migrate, demo, team, plan}
use Rattle.golog_commands.specs.declared.outcome.Input.{Input}
use Rattle.golog_commands.specs.declared.outcome.Input.TheVariants.{Agent as AgentFile, Devices as DevicesFile, Journal as JournalFile, First, Second}
use Rattle.golog_commands.specs.declared.outcome.Outcome.{Outcome}
use Rattle.golog_commands.specs.declared.outcome.Outcome.TheVariants.{WordsRefused, ReadFault, Refused, Ran, Checked, Judged, Asked, Migrated, Demonstrated, Teamed}
use Rattle.golog_commands.specs.declared.ready.Told.{Told}
use Rattle.golog_commands.specs.Inputs.{SpellsScripts, RefusesScripts, too_long, of_row, SpellsJournal, RefusesJournal, journal_too_long, of_line, SpellsBoth, Reads, Tells, IsUnread, scripts_for, refusal_text}
use Rattle.golog_commands.specs.Teams.{IsTeamOf, team_input, team_status}
use Rattle.golog_commands.specs.Demos.{Demonstrates, demo_text}
use Rattle.golog_commands.specs.Runs.{IsRunOf}
use Rattle.golog_commands.specs.Plans.{IsPlannedRunOf}
use Rattle.golog_commands.specs.Outcome.{ComesOf, unread, refused, holds, LeavesText, MigratedOf, OfFile, OfScripts, OfJournal, OfFrom, OfCondition, OfPlannable, PlannableBy, PlannedRunOf, TeamBy, TeamOf, RunOf, Judges, TruthOf, Outside, Reports, outcome_text, outcome_status, truth_after, verdict_line, verdict_status}
use Rattle.golog_commands.proofs.OneVerdict.{one-verdict}
use Rattle.golog_commands.specs.Exact.{Writes, Wrote, Shows, SaysItsCause, IsStopped, Answers, Says, IsRead, FileFollows, CondFollows, ScriptsFollow, JournalFollows, FromFollows, RunFollows, DemoFollows, JudgedFollows, TruthFollows, PlanFollows, PlannableFollows, ShowsTeam, TeamFollows, FollowsItsCause, StatusesAreExact}
use Rattle.golog_commands.proofs.Causes.{IsCaused}

-- ---- what is read

held_or_not : (held : Option (List HeldFile)) (name : Text) (P : Text → Type 0) → HasNone held name → FileHas held name P → ⊥
held_or_not None name P none has = none
held_or_not (Some files) name P none has = rw none at has

module _ (name bytes : Text) (before after : Outside) (read : IsRead name bytes before after) where
  read_has : (P : Text → Type 0) → FileHas before.held name P → P bytes
  read_has P has = rw (read.told, read.has) at has

  read_is_there : HasNone before.held name → ⊥
  read_is_there none =
      let missing : bytes_of read.files name ≡ None = rw read.told at none in
      let there : bytes_of read.files name ≡ Some bytes = read.has in
      cc

  no_fault : IsUnread before.held name before.file_faults after.file_faults → ⊥
  no_fault (inl none) = read_is_there none
  no_fault (inr rose) = read.unfailed rose

  -- the bytes read are those of which something is so
  pub read_so : (P : Text → Type 0) → Reads before.held name P → P bytes
  read_so P reads = subst P (sym (read_has (λ told. told ≡ reads.bytes) reads.has)) reads.so

-- ---- what comes of an input, and what follows of it

-- bytes that spell a value are not refused
abbrev pub Excludes : {A : Type 0} → (Text → ℕ → ℕ → Type 0) → (Text → A → Type 0) → Type 0
Excludes {A} Refuses Spells = (bytes : Text) (x : A) (code at : ℕ) → Spells bytes x → Refuses bytes code at → ⊥

-- they spell one value
abbrev pub SpellsOne : {A : Type 0} → (Text → A → Type 0) → Type 0
SpellsOne {A} Spells = (bytes : Text) (x y : A) → Spells bytes x → Spells bytes y → y ≡ x

module _ {A : Type 0} (before after : Outside) (input : Input) (name : Text) (Refuses : Text → ℕ → ℕ → Type 0) (Spells : Text → A → Type 0)
    (excludes : Excludes Refuses Spells) (one : SpellsOne Spells) (outcome : Outcome) where
  -- where a file is read and spells a value, the outcome is of that
  pub file-spells : (P : A → Outcome → Type 0) (bytes : Text) (x : A) → IsRead name bytes before after → Spells bytes x
      → OfFile before.held before.file_faults after.file_faults input name Refuses Spells P outcome → P x outcome
  file-spells P bytes x read spells (unread is u) = absurd (no_fault name bytes before after read u)
  file-spells P bytes x read spells (refused text is reads) =
      let tells = read_so name bytes before after read (λ b. Tells input (Refuses b) text) reads in
      absurd (excludes bytes x tells.code tells.at spells tells.refused)
  file-spells P bytes x read spells (holds y reads next) =
      subst (λ z. P z outcome) (one bytes x y spells (read_so name bytes before after read (λ b. Spells b y) reads)) next

  module _ (status : ℕ) (shown : status ≡ outcome_status outcome) where
    no-file : (P : A → Outcome → Type 0) → OfFile before.held before.file_faults after.file_faults input name Refuses Spells P outcome
        → HasNone before.held name → Answers status 4 before after
    no-file P (unread is u) none = inl (shown ∙ ap outcome_status is)
    no-file P (refused text is reads) none = absurd (held_or_not before.held name (λ told. told ≡ reads.bytes) none reads.has)
    no-file P (holds y reads next) none = absurd (held_or_not before.held name (λ told. told ≡ reads.bytes) none reads.has)

    file-refused : (P : A → Outcome → Type 0) → OfFile before.held before.file_faults after.file_faults input name Refuses Spells P outcome
        → (bytes : Text) (code at : ℕ) → IsRead name bytes before after → Refuses bytes code at → Answers status 3 before after
    file-refused P (unread is u) bytes code at read r = absurd (no_fault name bytes before after read u)
    file-refused P (refused text is reads) bytes code at read r = inl (shown ∙ ap outcome_status is)
    file-refused P (holds y reads next) bytes code at read r =
        absurd (excludes bytes y code at (read_so name bytes before after read (λ b. Spells b y) reads) r)

    pub file-follows : (P : A → Outcome → Type 0) (Next : A → Type 0) → ((x : A) → P x outcome → Next x)
        → OfFile before.held before.file_faults after.file_faults input name Refuses Spells P outcome
        → FileFollows status before after Refuses Spells name Next
    file-follows P Next so comes = record {
      no_file = no-file P comes;
      refused = file-refused P comes;
      spelled = λ bytes x read spells. so x (file-spells P bytes x read spells comes);
    }

-- where a call is stopped, that follows of each input
file-stopped : {A : Type 0} (status : ℕ) (before after : Outside) (name : Text) (Refuses : Text → ℕ → ℕ → Type 0) (Spells : Text → A → Type 0) (Next : A → Type 0)
    → IsStopped status before after → ((x : A) → Next x) → FileFollows status before after Refuses Spells name Next
file-stopped status before after name Refuses Spells Next stopped so = record {
  no_file = λ none. inr stopped;
  refused = λ bytes code at read refuses. inr stopped;
  spelled = λ bytes x read spells. so x;
}

-- ---- the inputs of the commands

pub agents-exclude : Excludes IsFirstRefusal SpellsAgent
agents-exclude bytes agent code at spells refuses = excluded bytes agent spells code at refuses

pub agents-one : SpellsOne SpellsAgent
agents-one bytes x y s t = one-agent bytes y x t s

both-exclude : Excludes IsFirstRefusal SpellsBoth
both-exclude bytes u code at spells refuses = excluded bytes u.agent (without-theory bytes u.theory u.agent spells) code at refuses

both-one : SpellsOne SpellsBoth
both-one bytes x y s t =
    let same : s.form ≡ t.form = one-form bytes s.form t.form s.bytes_spell.spelled t.bytes_spell.spelled in
    let moved : FormSpellsWith t.form x.theory x.agent = subst (λ f. FormSpellsWith f x.theory x.agent) same s.form_spells in
    let theories : y.theory ≡ x.theory = theory-same t.form y.theory x.theory t.form_spells.theory_read moved.theory_read in
    let agents : y.agent ≡ x.agent = one-agent bytes y.agent x.agent (without-theory bytes y.theory y.agent t) (without-theory bytes x.theory x.agent s) in
    parts y x theories agents
  where
    parts : (a b : Understood) → a.theory ≡ b.theory → a.agent ≡ b.agent → a ≡ b
    parts a b e h =
        subst (λ t. a ≡ record { theory = t; agent = b.agent }) e (subst (λ g. a ≡ record { theory = a.theory; agent = g }) h refl)

module _ (agent : Agent) where
  pub scripts-exclude : Excludes (RefusesScripts agent) (SpellsScripts agent)
  scripts-exclude bytes listed _ _ spells (too_long long) = let small = spells.small in absurd (omega (arith, small, long))
  scripts-exclude bytes listed _ _ spells (of_row code at small refuses row) = let k : Ok listed ≡ Err (code, at) = sym spells.spelled ∙ refuses in absurd (cc)

  pub scripts-one : SpellsOne (SpellsScripts agent)
  scripts-one bytes a b s t = let k : Ok b ≡ Ok a = sym t.spelled ∙ s.spelled in cc

  pub journals-exclude : Excludes (RefusesJournal agent) (SpellsJournal agent)
  journals-exclude bytes told _ _ spells (journal_too_long long) = let small = spells.small in absurd (omega (arith, small, long))
  journals-exclude bytes told _ _ spells (of_line code at small refuses row) = let k : Ok told.report ≡ Err (code, at) = sym spells.said ∙ refuses in absurd (cc)

  pub journals-one : SpellsOne (SpellsJournal agent)
  journals-one bytes a b s t =
      let k : Ok b.report ≡ Ok a.report = sym t.said ∙ s.said in
      let reports : b.report ≡ a.report = cc in
      parts b a (t.same ∙ sym s.same) reports
    where
      parts : (c d : Told) → c.bytes ≡ d.bytes → c.report ≡ d.report → c ≡ d
      parts c d e h =
          subst (λ b. c ≡ record { bytes = b; report = d.report }) e (subst (λ r. c ≡ record { bytes = c.bytes; report = r }) h refl)

module _ (unrefused : SpelledCondIsUnrefused) (one : OneCondIsSpelled) (status : ℕ) (before after : Outside) (outcome : Outcome) (shown : status ≡ outcome_status outcome)
    (theory : DraftTheory) (agent : Agent) (bytes : Text) (P : Cond → Outcome → Type 0) where
  cond-refused : OfCondition theory agent bytes P outcome → (code at : ℕ) → RefusesCond theory agent bytes code at → Answers status 3 before after
  cond-refused (unread is u) code at r = absurd u
  cond-refused (refused text is tells) code at r = inl (shown ∙ ap outcome_status is)
  cond-refused (holds cond spells next) code at r = absurd (unrefused theory agent bytes cond spells code at r)

  cond-spelled : OfCondition theory agent bytes P outcome → (cond : Cond) → SpellsCond theory agent bytes cond → P cond outcome
  cond-spelled (unread is u) cond s = absurd u
  cond-spelled (refused text is tells) cond s = absurd (unrefused theory agent bytes cond s tells.code tells.at tells.refused)
  cond-spelled (holds other spells next) cond s = subst (λ k. P k outcome) (one theory agent bytes other cond spells s) next

  cond-follows : (Next : Cond → Type 0) → ((cond : Cond) → P cond outcome → Next cond) → OfCondition theory agent bytes P outcome
      → CondFollows status before after theory agent bytes Next
  cond-follows Next so comes = record { refused = cond-refused comes; spelled = λ cond s. so cond (cond-spelled comes cond s) }

-- ---- what follows of the cause

module _ (status : ℕ) (before after : Outside) where
  ran-follows : (agent : Agent) (start : Option Values) (listed : List Script) (inline : Bool) (outcome : Outcome) → status ≡ outcome_status outcome → Writes before after (outcome_text outcome)
      → RunOf agent start listed inline before.devices after.devices outcome → RunFollows status before after agent start listed inline
  ran-follows agent start listed inline (Ran text answer) is written ran =
      inl (record {
        text = text;
        runs = subst (IsRunOf agent start (scripts_for agent listed) inline before.devices after.devices text) (sym is) ran;
        written = written;
      })
  ran-follows agent start listed inline WordsRefused is written ran = absurd ran
  ran-follows agent start listed inline (ReadFault input) is written ran = absurd ran
  ran-follows agent start listed inline (Refused input text) is written ran = absurd ran
  ran-follows agent start listed inline (Checked text) is written ran = absurd ran
  ran-follows agent start listed inline (Judged verdict text) is written ran = absurd ran
  ran-follows agent start listed inline (Asked truth) is written ran = absurd ran
  ran-follows agent start listed inline (Migrated text) is written ran = absurd ran
  ran-follows agent start listed inline (Demonstrated text) is written ran = absurd ran
  ran-follows agent start listed inline (Teamed text first second) is written ran = absurd ran

  plan-follows : (agent : Agent) (depth fuel : ℕ) (listed : List Script) (inline : Bool) (outcome : Outcome) → status ≡ outcome_status outcome → Writes before after (outcome_text outcome)
      → PlannedRunOf agent depth fuel listed inline before.devices after.devices outcome → PlanFollows status before after agent depth fuel listed inline
  plan-follows agent depth fuel listed inline (Ran text answer) is written ran =
      inl (record {
        text = text;
        runs = subst (IsPlannedRunOf agent depth fuel (scripts_for agent listed) inline before.devices after.devices text) (sym is) ran;
        written = written;
      })
  plan-follows agent depth fuel listed inline WordsRefused is written ran = absurd ran
  plan-follows agent depth fuel listed inline (ReadFault input) is written ran = absurd ran
  plan-follows agent depth fuel listed inline (Refused input text) is written ran = absurd ran
  plan-follows agent depth fuel listed inline (Checked text) is written ran = absurd ran
  plan-follows agent depth fuel listed inline (Judged verdict text) is written ran = absurd ran
  plan-follows agent depth fuel listed inline (Asked truth) is written ran = absurd ran
  plan-follows agent depth fuel listed inline (Migrated text) is written ran = absurd ran
  plan-follows agent depth fuel listed inline (Demonstrated text) is written ran = absurd ran
  plan-follows agent depth fuel listed inline (Teamed text first second) is written ran = absurd ran

  -- a team that was played, or refused
  abbrev Plays : Agent → Agent → Bool → Type 0
  Plays a b inline = (one : Answer) × (other : Answer) × (status ≡ team_status one other) × Wrote before after (λ text. IsTeamOf a b inline text one other)

  team-played : (a b : Agent) (inline : Bool) (outcome : Outcome) → status ≡ outcome_status outcome → Writes before after (outcome_text outcome)
      → TeamOf a b inline outcome → Plays a b inline
  team-played a b inline (Teamed text first second) is written of = (first, second, is, record { text = text; runs = of; written = written })
  team-played a b inline WordsRefused is written of = absurd of
  team-played a b inline (ReadFault input) is written of = absurd of
  team-played a b inline (Refused input text) is written of = absurd of
  team-played a b inline (Ran text answer) is written of = absurd of
  team-played a b inline (Checked text) is written of = absurd of
  team-played a b inline (Judged verdict text) is written of = absurd of
  team-played a b inline (Asked truth) is written of = absurd of
  team-played a b inline (Migrated text) is written of = absurd of
  team-played a b inline (Demonstrated text) is written of = absurd of

  module _ (unrefused : SpelledCondIsUnrefused) (one : OneCondIsSpelled) (outcome : Outcome) (shown : status ≡ outcome_status outcome)
      (written : Writes before after (outcome_text outcome)) where
    said : (o : Outcome) → outcome ≡ o → Says status (outcome_status o) (outcome_text o) before after
    said o is = inl (shown ∙ ap outcome_status is, written ∙ ap (λ x. and_then_bytes before.taken (outcome_text x)) is)

    abbrev Runs : Agent → Bool → List Script → Option Values → Outcome → Type 0
    Runs agent inline listed start = RunOf agent start listed inline before.devices after.devices

    abbrev From : Agent → Option Text → Bool → List Script → Outcome → Type 0
    From agent from inline listed = OfFrom before.held before.file_faults after.file_faults agent from (Runs agent inline listed)

    from-follow : (agent : Agent) (from : Option Text) (inline : Bool) (listed : List Script) → From agent from inline listed outcome
        → FromFollows status before after agent from (λ start. RunFollows status before after agent start listed inline)
    from-follow agent None inline listed ran = ran-follows agent None listed inline outcome shown written ran
    from-follow agent (Some name) inline listed comes =
        file-follows before after JournalFile name (RefusesJournal agent) (SpellsJournal agent) (journals-exclude agent) (journals-one agent) outcome status shown
        (λ told. Runs agent inline listed (Some (values_left agent told.report)))
        (λ told. RunFollows status before after agent (Some (values_left agent told.report)) listed inline)
        (λ told ran. ran-follows agent (Some (values_left agent told.report)) listed inline outcome shown written ran) comes

    scripts-follow : (agent : Agent) (named from : Option Text) (inline : Bool)
        → OfScripts before.held before.file_faults after.file_faults agent named (From agent from inline) outcome
        → ScriptsFollow status before after agent named (λ listed. FromFollows status before after agent from (λ start. RunFollows status before after agent start listed inline))
    scripts-follow agent None from inline comes = from-follow agent from inline [] comes
    scripts-follow agent (Some name) from inline comes =
        file-follows before after DevicesFile name (RefusesScripts agent) (SpellsScripts agent) (scripts-exclude agent) (scripts-one agent) outcome status shown
        (From agent from inline) (λ listed. FromFollows status before after agent from (λ start. RunFollows status before after agent start listed inline))
        (λ listed. from-follow agent from inline listed) comes

    migrate-follows : (agent : Agent) (journal : Text) → OfJournal before.held before.file_faults after.file_faults agent journal (MigratedOf agent) outcome
        → JournalFollows status before after agent journal (λ told. Says status 0 (journal_text agent (migrated agent told.report)) before after)
    migrate-follows agent journal comes =
        file-follows before after JournalFile journal (RefusesJournal agent) (SpellsJournal agent) (journals-exclude agent) (journals-one agent) outcome status shown
        (MigratedOf agent) (λ told. Says status 0 (journal_text agent (migrated agent told.report)) before after)
        (λ told is. said (Migrated (journal_text agent (migrated agent told.report))) is) comes

    abbrev Asks : Agent → Told → Cond → Type 0
    Asks agent told cond = TruthFollows status before after agent told cond

    ask-follows : (u : Understood) (journal condition : Text)
        → OfJournal before.held before.file_faults after.file_faults u.agent journal (λ told. OfCondition u.theory u.agent condition (λ cond. TruthOf u.agent told cond)) outcome
        → JournalFollows status before after u.agent journal (λ told. CondFollows status before after u.theory u.agent condition (Asks u.agent told))
    ask-follows u journal condition comes =
        file-follows before after JournalFile journal (RefusesJournal u.agent) (SpellsJournal u.agent) (journals-exclude u.agent) (journals-one u.agent) outcome status shown
        (λ told. OfCondition u.theory u.agent condition (λ cond. TruthOf u.agent told cond))
        (λ told. CondFollows status before after u.theory u.agent condition (Asks u.agent told))
        (λ told. cond-follows unrefused one status before after outcome shown u.theory u.agent condition (TruthOf u.agent told) (Asks u.agent told)
        (λ cond is. said (Asked (truth_after u.agent told cond)) is)) comes

    -- the verdict is the one that is told
    judge-follows : (agent : Agent) (told : Told) → Judges agent told outcome → JudgedFollows status before after agent told
    judge-follows agent told judges verdict so =
        let same : judges.verdict ≡ verdict = one-verdict (started agent told.report.start) told.bytes told.report judges.verdict verdict judges.so so in
        subst (λ v. Says status (verdict_status v) (verdict_line v) before after) same (said (Judged judges.verdict (verdict_line judges.verdict)) judges.is)

    replay-follows : (agent : Agent) (journal : Text) → OfJournal before.held before.file_faults after.file_faults agent journal (Judges agent) outcome
        → JournalFollows status before after agent journal (λ told. JudgedFollows status before after agent told)
    replay-follows agent journal comes =
        file-follows before after JournalFile journal (RefusesJournal agent) (SpellsJournal agent) (journals-exclude agent) (journals-one agent) outcome status shown
        (Judges agent) (λ told. JudgedFollows status before after agent told) (judge-follows agent) comes

    demo-follows : (size : ℕ) → Demonstrates size before.devices after.devices outcome → DemoFollows status before after size
    demo-follows size shows =
        let text = demo_text size shows.report.entries shows.answer in
        inl (
          shown ∙ ap outcome_status shows.is,
          record {
            text = text;
            runs = subst (Demonstrates size before.devices after.devices) shows.is shows;
            written = written ∙ ap (λ x. and_then_bytes before.taken (outcome_text x)) shows.is;
          },
        )

    team-by : (a b : Agent) (inline : Bool) (r : Option TeamRefusal) → team_refusal a b ≡ r → TeamBy r (TeamOf a b inline) outcome → TeamFollows status before after a b inline
    team-by a b inline None none of = record {
      refused = λ s is. let no : None ≡ Some s = sym none ∙ is in absurd (cc);
      played = λ _. inl (team-played a b inline outcome shown written of);
    }
    team-by a b inline (Some r) is refuses = record {
      refused = λ s other.
          let same : Some r ≡ Some s = sym is ∙ other in
          let its : r ≡ s = cc in
          subst (λ (t : TeamRefusal). Says status 3 (refusal_text (team_input t.side) t.code t.at) before after) its
          (said (Refused (team_input r.side) (refusal_text (team_input r.side) r.code r.at)) refuses);
      played = λ none. let no : Some r ≡ None = sym is ∙ none in absurd (cc);
    }

    team-follows : (a : Agent) (second : Text) (inline : Bool)
        → OfFile before.held before.file_faults after.file_faults Second second IsFirstRefusal SpellsAgent (λ b. TeamBy (team_refusal a b) (TeamOf a b inline)) outcome
        → FileFollows status before after IsFirstRefusal SpellsAgent second (λ b. TeamFollows status before after a b inline)
    team-follows a second inline comes =
        file-follows before after Second second IsFirstRefusal SpellsAgent agents-exclude agents-one outcome status shown
        (λ b. TeamBy (team_refusal a b) (TeamOf a b inline)) (λ b. TeamFollows status before after a b inline)
        (λ b. team-by a b inline (team_refusal a b) refl) comes

    -- a run that follows plans
    abbrev Plans : Agent → ℕ → ℕ → Bool → List Script → Outcome → Type 0
    Plans agent depth fuel inline listed = PlannedRunOf agent depth fuel listed inline before.devices after.devices

    abbrev Plan-follows : Agent → ℕ → ℕ → Option Text → Bool → Type 0
    Plan-follows agent depth fuel named inline = ScriptsFollow status before after agent named (λ listed. PlanFollows status before after agent depth fuel listed inline)

    plans-follow : (agent : Agent) (depth fuel : ℕ) (named : Option Text) (inline : Bool)
        → OfScripts before.held before.file_faults after.file_faults agent named (Plans agent depth fuel inline) outcome → Plan-follows agent depth fuel named inline
    plans-follow agent depth fuel None inline comes = plan-follows agent depth fuel [] inline outcome shown written comes
    plans-follow agent depth fuel (Some name) inline comes =
        file-follows before after DevicesFile name (RefusesScripts agent) (SpellsScripts agent) (scripts-exclude agent) (scripts-one agent) outcome status shown
        (Plans agent depth fuel inline) (λ listed. PlanFollows status before after agent depth fuel listed inline)
        (λ listed. plan-follows agent depth fuel listed inline outcome shown written) comes

    plan-by : (agent : Agent) (P : Outcome → Type 0) (Next : Type 0) → (P outcome → Next) → (b : Bool) → has_block agent agent.main ≡ b → PlannableBy b P outcome
        → PlannableFollows status before after agent Next
    plan-by agent P Next so false free next = record { refused = λ blocked. absurd (true≢false (sym blocked ∙ free)); plannable = λ _. so next }
    plan-by agent P Next so true blocked is = record {
      refused = λ _. said (Refused AgentFile (refusal_text AgentFile 39 0)) is;
      plannable = λ free. absurd (true≢false (sym blocked ∙ free));
    }

    follows : (spelled : Option CommandLine) → IsCaused spelled before after outcome → FollowsItsCause status before after spelled
    follows None is = inl (shown ∙ ap outcome_status is)
    follows (Some (run name named inline from workers)) comes =
        file-follows before after AgentFile name IsFirstRefusal SpellsAgent agents-exclude agents-one outcome status shown
        (λ a. OfScripts before.held before.file_faults after.file_faults a named (From a from inline))
        (λ a. ScriptsFollow status before after a named (λ listed. FromFollows status before after a from (λ start. RunFollows status before after a start listed inline)))
        (λ a. scripts-follow a named from inline) comes
    follows (Some (check name)) comes =
        file-follows before after AgentFile name IsFirstRefusal SpellsAgent agents-exclude agents-one outcome status shown
        (λ a o. o ≡ Checked (check_text a)) (λ a. Says status 0 (check_text a) before after) (λ a is. said (Checked (check_text a)) is) comes
    follows (Some (replay name journal)) comes =
        file-follows before after AgentFile name IsFirstRefusal SpellsAgent agents-exclude agents-one outcome status shown
        (λ a. OfJournal before.held before.file_faults after.file_faults a journal (Judges a))
        (λ a. JournalFollows status before after a journal (λ told. JudgedFollows status before after a told))
        (λ a. replay-follows a journal) comes
    follows (Some (ask name journal condition)) comes =
        file-follows before after AgentFile name IsFirstRefusal SpellsBoth both-exclude both-one outcome status shown
        (λ u. OfJournal before.held before.file_faults after.file_faults u.agent journal (λ told. OfCondition u.theory u.agent condition (λ cond. TruthOf u.agent told cond)))
        (λ u. JournalFollows status before after u.agent journal (λ told. CondFollows status before after u.theory u.agent condition (Asks u.agent told)))
        (λ u. ask-follows u journal condition) comes
    follows (Some (migrate name journal)) comes =
        file-follows before after AgentFile name IsFirstRefusal SpellsAgent agents-exclude agents-one outcome status shown
        (λ a. OfJournal before.held before.file_faults after.file_faults a journal (MigratedOf a))
        (λ a. JournalFollows status before after a journal (λ told. Says status 0 (journal_text a (migrated a told.report)) before after))
        (λ a. migrate-follows a journal) comes
    follows (Some (demo size)) comes = demo-follows size comes
    follows (Some (team first second inline)) comes =
        file-follows before after First first IsFirstRefusal SpellsAgent agents-exclude agents-one outcome status shown
        (λ a. OfFile before.held before.file_faults after.file_faults Second second IsFirstRefusal SpellsAgent (λ b. TeamBy (team_refusal a b) (TeamOf a b inline)))
        (λ a. FileFollows status before after IsFirstRefusal SpellsAgent second (λ b. TeamFollows status before after a b inline))
        (λ a. team-follows a second inline) comes
    follows (Some (plan depth fuel name named inline)) comes =
        file-follows before after AgentFile name IsFirstRefusal SpellsAgent agents-exclude agents-one outcome status shown
        (λ a. OfPlannable a (OfScripts before.held before.file_faults after.file_faults a named (Plans a depth fuel inline)))
        (λ a. PlannableFollows status before after a (Plan-follows a depth fuel named inline))
        (λ a. plan-by a (OfScripts before.held before.file_faults after.file_faults a named (Plans a depth fuel inline)) (Plan-follows a depth fuel named inline)
        (plans-follow a depth fuel named inline) (has_block a a.main) refl) comes

  module _ (stop : IsStopped status before after) where
    from-stopped : (agent : Agent) (from : Option Text) (inline : Bool) (listed : List Script)
        → FromFollows status before after agent from (λ start. RunFollows status before after agent start listed inline)
    from-stopped agent None inline listed = inr stop
    from-stopped agent (Some name) inline listed =
        file-stopped status before after name (RefusesJournal agent) (SpellsJournal agent)
        (λ told. RunFollows status before after agent (Some (values_left agent told.report)) listed inline) stop (λ told. inr stop)

    scripts-stopped : (agent : Agent) (named from : Option Text) (inline : Bool)
        → ScriptsFollow status before after agent named (λ listed. FromFollows status before after agent from (λ start. RunFollows status before after agent start listed inline))
    scripts-stopped agent None from inline = from-stopped agent from inline []
    scripts-stopped agent (Some name) from inline =
        file-stopped status before after name (RefusesScripts agent) (SpellsScripts agent)
        (λ listed. FromFollows status before after agent from (λ start. RunFollows status before after agent start listed inline)) stop (from-stopped agent from inline)

    migrate-stopped : (agent : Agent) (journal : Text)
        → JournalFollows status before after agent journal (λ told. Says status 0 (journal_text agent (migrated agent told.report)) before after)
    migrate-stopped agent journal =
        file-stopped status before after journal (RefusesJournal agent) (SpellsJournal agent)
        (λ told. Says status 0 (journal_text agent (migrated agent told.report)) before after) stop (λ told. inr stop)

    replay-stopped : (agent : Agent) (journal : Text) → JournalFollows status before after agent journal (λ told. JudgedFollows status before after agent told)
    replay-stopped agent journal =
        file-stopped status before after journal (RefusesJournal agent) (SpellsJournal agent) (λ told. JudgedFollows status before after agent told) stop
        (λ told verdict so. inr stop)

    ask-stopped : (u : Understood) (journal condition : Text)
        → JournalFollows status before after u.agent journal
        (λ told. CondFollows status before after u.theory u.agent condition (λ cond. TruthFollows status before after u.agent told cond))
    ask-stopped u journal condition =
        file-stopped status before after journal (RefusesJournal u.agent) (SpellsJournal u.agent)
        (λ told. CondFollows status before after u.theory u.agent condition (λ cond. TruthFollows status before after u.agent told cond)) stop
        (λ told. record { refused = λ code at r. inr stop; spelled = λ cond s. inr stop })

    team-stopped : (a : Agent) (second : Text) (inline : Bool)
        → FileFollows status before after IsFirstRefusal SpellsAgent second (λ b. TeamFollows status before after a b inline)
    team-stopped a second inline =
        file-stopped status before after second IsFirstRefusal SpellsAgent (λ b. TeamFollows status before after a b inline) stop
        (λ b. record { refused = λ r is. inr stop; played = λ none. inr stop })

    plan-stopped : (agent : Agent) (depth fuel : ℕ) (named : Option Text) (inline : Bool)
        → ScriptsFollow status before after agent named (λ listed. PlanFollows status before after agent depth fuel listed inline)
    plan-stopped agent depth fuel None inline = inr stop
    plan-stopped agent depth fuel (Some name) inline =
        file-stopped status before after name (RefusesScripts agent) (SpellsScripts agent) (λ listed. PlanFollows status before after agent depth fuel listed inline) stop (λ listed. inr stop)

    stopped : (spelled : Option CommandLine) → FollowsItsCause status before after spelled
    stopped None = inr stop
    stopped (Some (run name named inline from workers)) =
        file-stopped status before after name IsFirstRefusal SpellsAgent
        (λ a. ScriptsFollow status before after a named (λ listed. FromFollows status before after a from (λ start. RunFollows status before after a start listed inline))) stop
        (λ a. scripts-stopped a named from inline)
    stopped (Some (check name)) =
        file-stopped status before after name IsFirstRefusal SpellsAgent (λ a. Says status 0 (check_text a) before after) stop (λ a. inr stop)
    stopped (Some (replay name journal)) =
        file-stopped status before after name IsFirstRefusal SpellsAgent
        (λ a. JournalFollows status before after a journal (λ told. JudgedFollows status before after a told)) stop (λ a. replay-stopped a journal)
    stopped (Some (ask name journal condition)) =
        file-stopped status before after name IsFirstRefusal SpellsBoth
        (λ u. JournalFollows status before after u.agent journal
        (λ told. CondFollows status before after u.theory u.agent condition (λ cond. TruthFollows status before after u.agent told cond))) stop
        (λ u. ask-stopped u journal condition)
    stopped (Some (migrate name journal)) =
        file-stopped status before after name IsFirstRefusal SpellsAgent
        (λ a. JournalFollows status before after a journal (λ told. Says status 0 (journal_text a (migrated a told.report)) before after)) stop (λ a. migrate-stopped a journal)
    stopped (Some (demo size)) = inr stop
    stopped (Some (team first second inline)) =
        file-stopped status before after first IsFirstRefusal SpellsAgent
        (λ a. FileFollows status before after IsFirstRefusal SpellsAgent second (λ b. TeamFollows status before after a b inline)) stop
        (λ a. team-stopped a second inline)
    stopped (Some (plan depth fuel name named inline)) =
        file-stopped status before after name IsFirstRefusal SpellsAgent
        (λ a. PlannableFollows status before after a (ScriptsFollow status before after a named (λ listed. PlanFollows status before after a depth fuel listed inline))) stop
        (λ a. record { refused = λ blocked. inr stop; plannable = λ free. plan-stopped a depth fuel named inline })

-- ---- a status only where its cause is

-- a run has a status of its own, or was stopped for want of memory
data RunStatus (answer : Answer) : Type 0 where
  is_done : answer_status answer ≡ 0 → RunStatus answer
  is_out : answer ≡ Memory → RunStatus answer
  is_other : 10 ≤ answer_status answer → answer_status answer ≤ 16 → RunStatus answer

run_status : (answer : Answer) → RunStatus answer
run_status Done = is_done refl
run_status Stuck = is_other (omega arith) (omega arith)
run_status Unknown = is_other (omega arith) (omega arith)
run_status Depth = is_other (omega arith) (omega arith)
run_status Fuel = is_other (omega arith) (omega arith)
run_status Unanswered = is_other (omega arith) (omega arith)
run_status Full = is_other (omega arith) (omega arith)
run_status Deep = is_other (omega arith) (omega arith)
run_status Memory = is_out refl

module _ (status : ℕ) (spelled : Option CommandLine) (before after : Outside) where
  failed_says : status ≡ 5 → Rose before.sink_faults after.sink_faults → SaysItsCause status spelled before after
  failed_says is rose = record {
    words_refused = λ two. absurd (omega (arith, is, two));
    refused = λ three. absurd (omega (arith, is, three));
    read_fault = λ four. absurd (omega (arith, is, four));
    write_fault = λ five. rose;
    starved = λ six. absurd (omega (arith, is, six));
    ran = λ more. let low = more.0 in absurd (omega (arith, is, low));
    not_online = λ seventeen. absurd (omega (arith, is, seventeen));
    served = λ none. absurd (omega (arith, is, none));
  }

  starved_says : status ≡ 6
      → IsSome spelled
      × (LeavesText spelled before after ⊎ ((text : Text) × Shows status spelled before after (Ran text Memory)) ⊎ ShowsTeam status spelled before after)
      → SaysItsCause status spelled before after
  starved_says is cause = record {
    words_refused = λ two. absurd (omega (arith, is, two));
    refused = λ three. absurd (omega (arith, is, three));
    read_fault = λ four. absurd (omega (arith, is, four));
    write_fault = λ five. absurd (omega (arith, is, five));
    starved = λ six. cause;
    ran = λ more. let low = more.0 in absurd (omega (arith, is, low));
    not_online = λ seventeen. absurd (omega (arith, is, seventeen));
    served = λ none. absurd (omega (arith, is, none));
  }

  refused_says : (input : Input) (text : Text) → Shows status spelled before after (Refused input text) → SaysItsCause status spelled before after
  refused_says input text shows = let is : status ≡ 3 = shows.shown in record {
    words_refused = λ two. absurd (omega (arith, is, two));
    refused = λ three. (input, text, shows);
    read_fault = λ four. absurd (omega (arith, is, four));
    write_fault = λ five. absurd (omega (arith, is, five));
    starved = λ six. absurd (omega (arith, is, six));
    ran = λ more. let low = more.0 in absurd (omega (arith, is, low));
    not_online = λ seventeen. absurd (omega (arith, is, seventeen));
    served = λ none. absurd (omega (arith, is, none));
  }

  fault_says : (input : Input) → Shows status spelled before after (ReadFault input) → SaysItsCause status spelled before after
  fault_says input shows = let is : status ≡ 4 = shows.shown in record {
    words_refused = λ two. absurd (omega (arith, is, two));
    refused = λ three. absurd (omega (arith, is, three));
    read_fault = λ four. (input, shows);
    write_fault = λ five. absurd (omega (arith, is, five));
    starved = λ six. absurd (omega (arith, is, six));
    ran = λ more. let low = more.0 in absurd (omega (arith, is, low));
    not_online = λ seventeen. absurd (omega (arith, is, seventeen));
    served = λ none. absurd (omega (arith, is, none));
  }

  words_say : status ≡ 2 → spelled ≡ None → SaysItsCause status spelled before after
  words_say is cause = record {
    words_refused = λ two. cause;
    refused = λ three. absurd (omega (arith, is, three));
    read_fault = λ four. absurd (omega (arith, is, four));
    write_fault = λ five. absurd (omega (arith, is, five));
    starved = λ six. absurd (omega (arith, is, six));
    ran = λ more. let low = more.0 in absurd (omega (arith, is, low));
    not_online = λ seventeen. absurd (omega (arith, is, seventeen));
    served = λ none. absurd (omega (arith, is, none));
  }

  ran_says : ((text : Text) × (answer : Answer) × Shows status spelled before after (Ran text answer)) ⊎ ShowsTeam status spelled before after
      → 10 ≤ status → status ≤ 16 → SaysItsCause status spelled before after
  ran_says shows more less = record {
    words_refused = λ two. absurd (omega (arith, more, two));
    refused = λ three. absurd (omega (arith, more, three));
    read_fault = λ four. absurd (omega (arith, more, four));
    write_fault = λ five. absurd (omega (arith, more, five));
    starved = λ six. absurd (omega (arith, more, six));
    ran = λ within. shows;
    not_online = λ seventeen. absurd (omega (arith, less, seventeen));
    served = λ none. absurd (omega (arith, more, none));
  }

  not_online_says : (place : ℕ) (why : Why) (text : Text) → Shows status spelled before after (Judged (Not place why) text) → SaysItsCause status spelled before after
  not_online_says place why text shows = let is : status ≡ 17 = shows.shown in record {
    words_refused = λ two. absurd (omega (arith, is, two));
    refused = λ three. absurd (omega (arith, is, three));
    read_fault = λ four. absurd (omega (arith, is, four));
    write_fault = λ five. absurd (omega (arith, is, five));
    starved = λ six. absurd (omega (arith, is, six));
    ran = λ more. let high = more.1 in absurd (omega (arith, is, high));
    not_online = λ seventeen. (place, why, text, shows);
    served = λ none. absurd (omega (arith, is, none));
  }

  served_says : (outcome : Outcome) → status ≡ 0 → Shows status spelled before after outcome → SaysItsCause status spelled before after
  served_says outcome is shows = record {
    words_refused = λ two. absurd (omega (arith, is, two));
    refused = λ three. absurd (omega (arith, is, three));
    read_fault = λ four. absurd (omega (arith, is, four));
    write_fault = λ five. absurd (omega (arith, is, five));
    starved = λ six. absurd (omega (arith, is, six));
    ran = λ more. let low = more.0 in absurd (omega (arith, is, low));
    not_online = λ seventeen. absurd (omega (arith, is, seventeen));
    served = λ none. (outcome, shows);
  }

-- nothing else is refused as words are
not-words : {A : Type 0} {input : Input} {Unread : Type 0} {Refuses : Text → Type 0} {Holds : A → Type 0} {P : A → Outcome → Type 0}
    → ComesOf input Unread Refuses Holds P WordsRefused → ((x : A) → P x WordsRefused → ⊥) → ⊥
not-words (unread is u) never = cc
not-words (refused text is r) never = cc
not-words (holds x h next) never = never x next

module _ (before after : Outside) where
  abbrev Ran-from : Agent → Option Text → Bool → List Script → Outcome → Type 0
  Ran-from agent from inline listed =
      OfFrom before.held before.file_faults after.file_faults agent from (λ start. RunOf agent start listed inline before.devices after.devices)

  not-from : (agent : Agent) (from : Option Text) (inline : Bool) (listed : List Script) → Ran-from agent from inline listed WordsRefused → ⊥
  not-from agent None inline listed comes = comes
  not-from agent (Some file) inline listed comes = not-words comes (λ told none. none)

  not-scripts : (agent : Agent) (named from : Option Text) (inline : Bool)
      → OfScripts before.held before.file_faults after.file_faults agent named (Ran-from agent from inline) WordsRefused → ⊥
  not-scripts agent None from inline comes = not-from agent from inline [] comes
  not-scripts agent (Some file) from inline comes = not-words comes (not-from agent from inline)

  not-team : (a b : Agent) (inline : Bool) (r : Option TeamRefusal) → TeamBy r (TeamOf a b inline) WordsRefused → ⊥
  not-team a b inline None of = of
  not-team a b inline (Some r) is = cc

  not-planned : (agent : Agent) (depth fuel : ℕ) (named : Option Text) (inline : Bool) (b : Bool)
      → PlannableBy b (OfScripts before.held before.file_faults after.file_faults agent named (λ listed. PlannedRunOf agent depth fuel listed inline before.devices after.devices)) WordsRefused → ⊥
  not-planned agent depth fuel None inline false comes = comes
  not-planned agent depth fuel (Some file) inline false comes = not-words comes (λ listed none. none)
  not-planned agent depth fuel named inline true is = cc

  refused-words : (spelled : Option CommandLine) → IsCaused spelled before after WordsRefused → spelled ≡ None
  refused-words None cause = refl
  refused-words (Some (run name named inline from workers)) cause = absurd (not-words cause (λ agent comes. not-scripts agent named from inline comes))
  refused-words (Some (check name)) cause = absurd (not-words cause (λ agent is. cc))
  refused-words (Some (replay name journal)) cause =
      absurd (not-words cause (λ agent comes. not-words comes (λ told judges. let is = judges.is in cc)))
  refused-words (Some (ask name journal condition)) cause =
      absurd (not-words cause (λ u comes. not-words comes (λ told also. not-words also (λ cond is. cc))))
  refused-words (Some (migrate name journal)) cause = absurd (not-words cause (λ agent comes. not-words comes (λ told is. cc)))
  refused-words (Some (demo size)) cause = let is = cause.is in absurd (cc)
  refused-words (Some (team first second inline)) cause =
      absurd (not-words cause (λ a comes. not-words comes (λ b t. not-team a b inline (team_refusal a b) t)))
  refused-words (Some (plan depth fuel name named inline)) cause =
      absurd (not-words cause (λ agent comes. not-planned agent depth fuel named inline (has_block agent agent.main) comes))

  some-command : (spelled : Option CommandLine) (outcome : Outcome) → (outcome ≡ WordsRefused → ⊥) → IsCaused spelled before after outcome → IsSome spelled
  some-command None outcome never cause = absurd (never cause)
  some-command (Some command) outcome never cause = refl

module _ (status : ℕ) (spelled : Option CommandLine) (before after : Outside) where
  run-says : (text : Text) (answer : Answer) → Shows status spelled before after (Ran text answer) → RunStatus answer → SaysItsCause status spelled before after
  run-says text answer shows (is_done none) = served_says status spelled before after (Ran text answer) (shows.shown ∙ none) shows
  run-says text answer shows (is_out is) =
      starved_says status spelled before after (shows.shown ∙ ap answer_status is)
      (some-command before after spelled (Ran text answer) (λ e. absurd (cc)) shows.cause, inr (inl (text, subst (λ a. Shows status spelled before after (Ran text a)) is shows)))
  run-says text answer shows (is_other more less) =
      ran_says status spelled before after (inl (text, answer, shows)) (let is = shows.shown in omega (arith, is, more)) (let is = shows.shown in omega (arith, is, less))

  -- the status of a team
  of-second : (n m : ℕ) → n ≡ 0 → (if n == 0 then m else n) ≡ m
  of-second zero m none = refl
  of-second (suc n) m none = absurd (omega (arith, none))

  of-first : (n m : ℕ) → 1 ≤ n → (if n == 0 then m else n) ≡ n
  of-first n m some = ap (λ b. if b then m else n) (ne_eqb n 0 (λ none. omega (arith, some, none)))

  -- a team whose status is that of this answer
  team-says : (text : Text) (one other answer : Answer) → Shows status spelled before after (Teamed text one other) → status ≡ answer_status answer → RunStatus answer
      → SaysItsCause status spelled before after
  team-says text one other answer shows shown (is_done zero') = served_says status spelled before after (Teamed text one other) (shown ∙ zero') shows
  team-says text one other answer shows shown (is_out is) =
      starved_says status spelled before after (shown ∙ ap answer_status is)
      (some-command before after spelled (Teamed text one other) (λ e. absurd (cc)) shows.cause, inr (inr (text, one, other, shows)))
  team-says text one other answer shows shown (is_other more less) =
      ran_says status spelled before after (inr (text, one, other, shows)) (omega (arith, shown, more)) (omega (arith, shown, less))

  team-told : (text : Text) (one other : Answer) → Shows status spelled before after (Teamed text one other) → RunStatus one → SaysItsCause status spelled before after
  team-told text one other shows (is_done none) =
      team-says text one other other shows (shows.shown ∙ of-second (answer_status one) (answer_status other) none) (run_status other)
  team-told text one other shows (is_out is) =
      let six : answer_status one ≡ 6 = ap answer_status is in
      team-says text one other one shows (shows.shown ∙ of-first (answer_status one) (answer_status other) (omega (arith, six))) (is_out is)
  team-told text one other shows (is_other more less) =
      team-says text one other one shows (shows.shown ∙ of-first (answer_status one) (answer_status other) (omega (arith, more))) (is_other more less)

  says : (outcome : Outcome) → Shows status spelled before after outcome → SaysItsCause status spelled before after
  says WordsRefused shows = words_say status spelled before after shows.shown (refused-words before after spelled shows.cause)
  says (ReadFault input) shows = fault_says status spelled before after input shows
  says (Refused input text) shows = refused_says status spelled before after input text shows
  says (Ran text answer) shows = run-says text answer shows (run_status answer)
  says (Checked text) shows = served_says status spelled before after (Checked text) shows.shown shows
  says (Judged (Online answer) text) shows = served_says status spelled before after (Judged (Online answer) text) shows.shown shows
  says (Judged (Not place why) text) shows = not_online_says status spelled before after place why text shows
  says (Asked truth) shows = served_says status spelled before after (Asked truth) shows.shown shows
  says (Migrated text) shows = served_says status spelled before after (Migrated text) shows.shown shows
  says (Demonstrated text) shows = served_says status spelled before after (Demonstrated text) shows.shown shows
  says (Teamed text one other) shows = team-told text one other shows (run_status one)

-- ---- both

of-report : SpelledCondIsUnrefused → OneCondIsSpelled → (status : ℕ) (spelled : Option CommandLine) (before after : Outside) (outcome : Outcome) → IsCaused spelled before after outcome
    → Reports status (outcome_text outcome) (outcome_status outcome) before.taken after.taken before.sink_faults after.sink_faults
    → SaysItsCause status spelled before after × FollowsItsCause status before after spelled
of-report unrefused one status spelled before after outcome cause (inl (shown, written, still)) = (
  says status spelled before after outcome (record { cause = cause; shown = shown; written = written }),
  follows status before after unrefused one outcome shown written spelled cause,
)
of-report unrefused one status spelled before after outcome cause (inr (five, prefix, rose)) =
    (failed_says status spelled before after five rose, stopped status before after (inl (five, rose)) spelled)

pub exact : SpelledCondIsUnrefused → OneCondIsSpelled → StatusesAreExact
exact unrefused one status spelled before after (inl reported) = of-report unrefused one status spelled before after reported.outcome reported.cause reported.report
exact unrefused one status spelled before after (inr starved) = (
  starved_says status spelled before after starved.answered (starved.command, inl starved.nothing),
  stopped status before after (inr starved.answered) spelled,
)
