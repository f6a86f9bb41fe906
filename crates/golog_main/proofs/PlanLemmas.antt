-- From what a scribe of plans has written and its run has made of the devices, to what the call comes to.
use Rattle.std.proofs.Common.{◌≡◌, ℕ, ◌≤◌, Bool, true, false, List, [], ◌++◌, length, Result, Ok, Err, IfOk, Option, Some, None, inl, inr, refl, sym, ap, ◌∙◌, subst, arith, ◌<◌}
use Rattle.std.specs.Prelude.{IfSome}
use Rattle.golog_tree.specs.declared.agent.Agent.{Agent}
use Rattle.golog_semantics.specs.BlockFree.{has_block}
use Rattle.golog_semantics.specs.declared.journal.Answer.{Answer}
use Rattle.golog_semantics.specs.declared.journal.Answer.TheVariants.{Done, Stuck, Unknown, Depth, Fuel, Unanswered, Full, Deep, Memory}
use Rattle.golog_semantics.specs.declared.journal.Entry.TheVariants.{End}
use Rattle.golog_semantics.specs.Dealt.{Meaning, Script}
use Rattle.golog_semantics.specs.Execution.{status_of as answer_status}
use Rattle.golog_semantics.specs.Journal.{Journal, has_end, longest}
use Rattle.golog_semantics.specs.Reports.{IsReport}
use Rattle.golog_semantics.specs.WellFormed.{WellFormed}
use Rattle.golog_semantics.specs.Text.{Text}
use Rattle.golog_branch.specs.PlanEnds.{EndsPlainly, PlansEndPlainly as EndPlainly}
use Rattle.golog_branch.specs.PlanJournals.{IsPlannedSoFar}
use Rattle.golog_plan.specs.PlanLeads.{IsStarved, plan_lead}
use Rattle.golog_plan.specs.Keeping.{PlanCourse, planned_to}
use Rattle.golog_plan.specs.PlanTexts.{HasPlanned, plan_text}
use Rattle.golog_journal.specs.Leading.{Bounds}
use Rattle.golog_journal.specs.Boards.{AgentJournal, IsBoardList}
use Rattle.golog_device.specs.Slots.{Standing, HaveBegun, standings}
use Rattle.golog_script.specs.declared.scripts.Script.{Script as Named}
use Rattle.golog_lead.proofs.RunsFit.{is-report}
use Rattle.golog_lead.specs.Keeping.{EndsBy}
use Rattle.golog_lead.specs.Rounds.{FollowsRounds, RunsToEnd}
use Rattle.golog_lead.specs.Written.{IsWritten}
use Rattle.golog_words.specs.Commands.{plan}
use Rattle.golog_commands.specs.declared.outcome.Outcome.{Outcome}
use Rattle.golog_commands.specs.declared.outcome.Outcome.TheVariants.{WordsRefused, ReadFault, Refused, Ran, Checked, Judged, Asked, Migrated, Demonstrated, Teamed}
use Rattle.golog_commands.specs.Outcome.{unread, refused, holds, Comes, OfScripts, Outside, PlannableBy, PlannedRunOf, Reports, outcome_status, outcome_text}
use Rattle.golog_commands.specs.Plans.{IsPlannedOf, plain_report}
use Rattle.golog_commands.specs.Runs.{AreTextsOf, HasBegunWith}
use Rattle.golog_commands.specs.Writing.{WritesJournal}
use Rattle.golog_commands.proofs.Begun.{as-many}
use Rattle.golog_main.specs.Plans.{PlansOn, PlansServedOn, PlansEndPlainly}
use Rattle.golog_main.proofs.Begun.{dealt-with, tell-left, none-stands}
use Rattle.golog_main.proofs.Reporting.{reports}
use Rattle.golog_main.proofs.Searchless.{stands-at}
use Rattle.golog_main.proofs.Served.{rounds-run, threads-run}

-- ---- in rounds

pub of-plan-rounds : (agent : Agent) (depth fuel : ℕ) (old new : Journal) (olds news : List Standing) → IsBoardList agent new → length new ≤ longest
    → RunsToEnd (IsPlannedSoFar agent depth fuel) (plan_lead agent depth fuel) IsStarved agent old new olds news
    → PlansOn agent depth fuel true old olds news new
of-plan-rounds agent depth fuel old new olds news lawful short ran = record {
  planned = record { entries = ran.kept; whole = ran.whole };
  lawful = lawful;
  short = short;
  run = rounds-run agent old new (IsPlannedSoFar agent depth fuel) (plan_lead agent depth fuel) IsStarved olds news ran;
  scripted = λ rounds. ran.scripted;
}

-- ---- over threads

-- a run over threads of the agent's devices is one of all devices, of which the others stay as they are
pub plans-among : {D : Type 0} (agent : Agent) (depth fuel : ℕ) (fresh : D → Bool) (meaning : D → Meaning) (old : Journal) (all ds es rest : List D)
    → all ≡ ds ++ rest → length ds ≡ length agent.devices → (journal : Journal) → PlansServedOn agent depth fuel meaning old ds es journal
    → PlansOn agent depth fuel false old (standings fresh meaning all) (standings fresh meaning (es ++ rest)) journal
plans-among agent depth fuel fresh meaning old all ds es rest split boxes journal on =
    subst (λ l. PlansOn agent depth fuel false old (standings fresh meaning l) (standings fresh meaning (es ++ rest)) journal) (sym split)
    (record {
      planned = on.planned;
      lawful = on.ran.lawful;
      short = on.ran.short;
      run = threads-run agent fresh meaning old journal ds es rest on.ran.served boxes;
      scripted = λ rounds. absurd (cc);
    })

-- ---- what is written

-- how far the plans of a program go, and how much a search for one may look at
abbrev pub bounds_of : PlanCourse → Bounds
bounds_of p = (p.depth, p.fuel)

-- so it is of what is the same
pub planned-as : (agent own : Agent) (was is : Bounds) (list : Journal) → own ≡ agent → was ≡ is → IsPlannedSoFar own was.0 was.1 list → IsPlannedSoFar agent is.0 is.1 list
planned-as agent own was is list same bounds so =
    subst (λ a. IsPlannedSoFar a is.0 is.1 list) same (subst (λ (b : Bounds). IsPlannedSoFar own b.0 b.1 list) bounds so)

pub planned-of : (agent own : Agent) (b c : Bounds) (list : Journal) (faulted : Bool) (was was' is is' : Option Text) (before before' after after' : ℕ)
    → own ≡ agent → b ≡ c → was ≡ was' → is ≡ is' → before ≡ before' → after ≡ after' → HasPlanned own b.0 b.1 list was is before after faulted
    → HasPlanned agent c.0 c.1 list was' is' before' after' faulted
planned-of agent own b c list faulted was was' is is' before before' after after' same bounds e h k m has =
    subst (λ x. HasPlanned x c.0 c.1 list was' is' before' after' faulted) same
    (subst (λ (x : Bounds). HasPlanned own x.0 x.1 list was' is' before' after' faulted) bounds
    (subst (λ x. HasPlanned own b.0 b.1 list x is' before' after' faulted) e
    (subst (λ x. HasPlanned own b.0 b.1 list was x before' after' faulted) h
    (subst (λ x. HasPlanned own b.0 b.1 list was is x after' faulted) k
    (subst (λ x. HasPlanned own b.0 b.1 list was is before x faulted) m has)))))

-- what is so of a journal that was written
pub journal-more : (P Q : Journal → Type 0) (text : Journal → Text) (old new : Option Text) (before after status : ℕ) → ((journal : Journal) → P journal → Q journal)
    → WritesJournal P text old new before after status → WritesJournal Q text old new before after status
journal-more P Q text old new before after status so writes = record {
  journal = writes.journal;
  so = so writes.journal writes.so;
  answer = writes.answer;
  ended = writes.ended;
  written = writes.written;
}

pub journals-more : {E : Type 0} (P Q : Journal → Type 0) (text : Journal → Text) (old new : Option Text) (before after : ℕ) (r : Result ℕ E) → ((journal : Journal) → P journal → Q journal)
    → IfOk r (WritesJournal P text old new before after) → IfOk r (WritesJournal Q text old new before after)
journals-more P Q text old new before after (Ok status) so writes = journal-more P Q text old new before after status so writes
journals-more P Q text old new before after (Err e) so writes = writes

-- the journal that it has copied was written, where that has an end
pub journal-writes : (P : Journal → Type 0) (text : Journal → Text) (old new : Option Text) (before after : ℕ) (list : Journal) (faulted : Bool) (answer : Option Answer) (status : ℕ)
    → IsWritten (text list) old new before after faulted → P list → EndsBy list answer → has_end list ≡ true → (faulted ≡ true → status ≡ 5)
    → (faulted ≡ false → IfSome answer (λ a. status ≡ answer_status a)) → WritesJournal P text old new before after status
journal-writes P text old new before after list faulted None status written so ends ended five shown = absurd (let no : false ≡ true = sym ends ∙ ended in cc)
journal-writes P text old new before after list faulted (Some a) status written so ends ended five shown = record {
  journal = list;
  so = so;
  answer = a;
  ended = ends;
  written = reports old new before after faulted (text list) a status written five shown;
}

-- ---- from where the devices have begun

-- the entries of a board's list have a text
plain-fits : (agent : Agent) (journal : Journal) → WellFormed agent → IsBoardList agent journal → length journal ≤ longest → IsReport agent (plain_report journal)
plain-fits agent journal formed lawful short =
    let fits = is-report agent journal formed lawful short in
    record { entries = fits.entries; runs = refl; in_order = refl; in_bounds = fits.in_bounds; start = tt }

module _ (agent : Agent) (depth fuel : ℕ) where
  plans-texts : (texts : List Text) (inline : Bool) (before : Journal) (olds mids news : List Standing) (journal : Journal) → WellFormed agent → length texts ≡ length agent.devices
      → HaveBegun (length texts) agent.devices texts before olds mids → PlansOn agent depth fuel inline before mids news journal → (scripts : List Script) → AreTextsOf texts scripts
      → IsPlannedOf agent depth fuel scripts inline olds news journal
  plans-texts texts inline before olds mids news journal formed one_each begun_texts on scripts are = record {
    planned = on.planned;
    fits = plain-fits agent journal formed on.lawful on.short;
    dealt = dealt-with agent texts scripts are before olds mids begun one_each journal news on.run;
    scripted = λ rounds tell.
        subst (λ j. FollowsRounds (plan_lead agent depth fuel) IsStarved agent scripts j journal) (none-stands agent texts scripts are before olds mids begun one_each tell)
        (on.scripted rounds scripts (sym (as-many texts scripts are) ∙ one_each) (tell-left agent texts scripts are before olds mids begun one_each tell));
  }
    where
      begun : HaveBegun (length agent.devices) agent.devices texts before olds mids
      begun = subst (λ n. HaveBegun n agent.devices texts before olds mids) one_each begun_texts

  -- and so for the scripts with which they have begun
  pub plans-run : (scripts : List Script) (inline : Bool) (before : AgentJournal) (olds mids news : List Standing) (journal : Journal) → WellFormed agent → length scripts ≡ length agent.devices
      → HasBegunWith agent scripts olds mids before → PlansOn agent depth fuel inline before.entries mids news journal → IsPlannedOf agent depth fuel scripts inline olds news journal
  plans-run scripts inline before olds mids news journal formed one_each begun_with on =
      plans-texts begun_with.texts inline before.entries olds mids news journal formed (as-many begun_with.texts scripts begun_with.are ∙ one_each) begun_with.begun.begun on scripts begun_with.are

  -- what was written by a pen of these bounds
  pub journal-by : (p : PlanCourse) (scripts : List Script) (inline : Bool) (olds news : List Standing) (old new : Option Text) (before after status : ℕ) → p ≡ planned_to agent depth fuel []
      → WritesJournal (IsPlannedOf agent p.depth p.fuel scripts inline olds news) (plan_text agent p.depth p.fuel) old new before after status
      → WritesJournal (IsPlannedOf agent depth fuel scripts inline olds news) (plan_text agent depth fuel) old new before after status
  journal-by p scripts inline olds news old new before after status is writes =
      subst (λ (q : PlanCourse). WritesJournal (IsPlannedOf agent q.depth q.fuel scripts inline olds news) (plan_text agent q.depth q.fuel) old new before after status) is writes

  pub journals-by : {E : Type 0} (p : PlanCourse) (scripts : List Script) (inline : Bool) (olds news : List Standing) (old new : Option Text) (before after : ℕ) (r : Result ℕ E)
      → p ≡ planned_to agent depth fuel [] → IfOk r (WritesJournal (IsPlannedOf agent p.depth p.fuel scripts inline olds news) (plan_text agent p.depth p.fuel) old new before after)
      → IfOk r (WritesJournal (IsPlannedOf agent depth fuel scripts inline olds news) (plan_text agent depth fuel) old new before after)
  journals-by p scripts inline olds news old new before after (Ok status) is writes = journal-by p scripts inline olds news old new before after status is writes
  journals-by p scripts inline olds news old new before after (Err e) is writes = tt

-- ---- how a run ends

-- no plain end has the status of one that is stuck, or for what is unknown
plain-status : (a : Answer) → EndsPlainly a → (¬ (answer_status a ≡ 10)) × (¬ (answer_status a ≡ 11))
plain-status Done plain = ((λ e. absurd (omega arith)), (λ e. absurd (omega arith)))
plain-status Stuck plain = absurd plain
plain-status Unknown plain = absurd plain
plain-status Depth plain = ((λ e. absurd (omega arith)), (λ e. absurd (omega arith)))
plain-status Fuel plain = ((λ e. absurd (omega arith)), (λ e. absurd (omega arith)))
plain-status Unanswered plain = ((λ e. absurd (omega arith)), (λ e. absurd (omega arith)))
plain-status Full plain = ((λ e. absurd (omega arith)), (λ e. absurd (omega arith)))
plain-status Deep plain = ((λ e. absurd (omega arith)), (λ e. absurd (omega arith)))
plain-status Memory plain = ((λ e. absurd (omega arith)), (λ e. absurd (omega arith)))

-- neither of these is the status
abbrev IsPlain : ℕ → Type 0
IsPlain status = (¬ (status ≡ 10)) × (¬ (status ≡ 11))

low : (status k : ℕ) → status ≡ k → k < 10 → IsPlain status
low status k is small = ((λ ten. absurd (omega (arith, is, small, ten))), (λ eleven. absurd (omega (arith, is, small, eleven))))

module _ (law : EndPlainly) (before after : Outside) (depth fuel : ℕ) (inline : Bool) where
  ran-plainly : (agent : Agent) (listed : List Named) (outcome : Outcome) → PlannedRunOf agent depth fuel listed inline before.devices after.devices outcome → IsPlain (outcome_status outcome)
  ran-plainly agent listed (Ran text answer) ran =
      let end = stands-at ran.journal (End ran.ended.answer) ran.ended.stands in
      let plain = plain-status ran.ended.answer (law agent depth fuel end.before ran.ended.answer (ran.run.planned.entries.entries end.before (End ran.ended.answer) end.later end.is)) in
      ((λ ten. plain.0 (sym ran.ended.shown ∙ ten)), (λ eleven. plain.1 (sym ran.ended.shown ∙ eleven)))
  ran-plainly agent listed WordsRefused ran = absurd ran
  ran-plainly agent listed (ReadFault input) ran = absurd ran
  ran-plainly agent listed (Refused input text) ran = absurd ran
  ran-plainly agent listed (Checked text) ran = absurd ran
  ran-plainly agent listed (Judged verdict text) ran = absurd ran
  ran-plainly agent listed (Asked truth) ran = absurd ran
  ran-plainly agent listed (Migrated text) ran = absurd ran
  ran-plainly agent listed (Demonstrated text) ran = absurd ran
  ran-plainly agent listed (Teamed text one other) ran = absurd ran

  module _ (outcome : Outcome) where
    scripts-plainly : (agent : Agent) (named : Option Text)
        → OfScripts before.held before.file_faults after.file_faults agent named (λ listed. PlannedRunOf agent depth fuel listed inline before.devices after.devices) outcome
        → IsPlain (outcome_status outcome)
    scripts-plainly agent None ran = ran-plainly agent [] outcome ran
    scripts-plainly agent (Some file) (unread is u) = low (outcome_status outcome) 4 (ap outcome_status is) (omega arith)
    scripts-plainly agent (Some file) (refused text is r) = low (outcome_status outcome) 3 (ap outcome_status is) (omega arith)
    scripts-plainly agent (Some file) (holds listed held ran) = ran-plainly agent listed outcome ran

    plannable-plainly : (agent : Agent) (named : Option Text) (b : Bool)
        → PlannableBy b (OfScripts before.held before.file_faults after.file_faults agent named (λ listed. PlannedRunOf agent depth fuel listed inline before.devices after.devices)) outcome
        → IsPlain (outcome_status outcome)
    plannable-plainly agent named true is = low (outcome_status outcome) 3 (ap outcome_status is) (omega arith)
    plannable-plainly agent named false comes = scripts-plainly agent named comes

    comes-plainly : (name : Text) (named : Option Text)
        → Comes before.held before.file_faults after.file_faults before.devices after.devices (Some (plan depth fuel name named inline)) outcome → IsPlain (outcome_status outcome)
    comes-plainly name named (unread is u) = low (outcome_status outcome) 4 (ap outcome_status is) (omega arith)
    comes-plainly name named (refused text is r) = low (outcome_status outcome) 3 (ap outcome_status is) (omega arith)
    comes-plainly name named (holds agent reads comes) = plannable-plainly agent named (has_block agent agent.main) comes

  reported-plainly : (status : ℕ) (outcome : Outcome) → IsPlain (outcome_status outcome)
      → Reports status (outcome_text outcome) (outcome_status outcome) before.taken after.taken before.sink_faults after.sink_faults → IsPlain status
  reported-plainly status outcome plain (inl (shown, written, still)) = ((λ ten. plain.0 (sym shown ∙ ten)), (λ eleven. plain.1 (sym shown ∙ eleven)))
  reported-plainly status outcome plain (inr (five, prefix, rose)) = low status 5 five (omega arith)

pub plans-plain : EndPlainly → PlansEndPlainly
plans-plain law depth fuel name devices inline status before after (inl reported) =
    reported-plainly law before after depth fuel inline status reported.outcome (comes-plainly law before after depth fuel inline reported.outcome name devices reported.cause) reported.report
plans-plain law depth fuel name devices inline status before after (inr starved) = low status 6 starved.answered (omega arith)
