-- From what a scribe has written to the report of a run.
use Rattle.std.proofs.Common.{◌≡◌, ℕ, Bool, true, false, List, [], ◌++◌, Result, Ok, Err, IfOk, Option, Some, None, IsSome, inl, inr, refl, sym, ap, ◌∙◌, subst}
use Rattle.std.specs.Prelude.{IfSome, OnErr}
use Rattle.golog_base.specs.Faults.{Rose}
use Rattle.golog_base.specs.Known.{AddsPrefix, and_then_bytes}
use Rattle.golog_base.proofs.KnownLemmas.{and_then-append}
use Rattle.golog_tree.specs.declared.agent.Agent.{Agent}
use Rattle.golog_semantics.specs.declared.journal.Answer.{Answer}
use Rattle.golog_semantics.specs.declared.journal.Report.{Report}
use Rattle.golog_semantics.specs.Execution.{status_of as answer_status}
use Rattle.golog_semantics.specs.InlineText.{report_of}
use Rattle.golog_semantics.specs.Journal.{Journal, has_end}
use Rattle.golog_semantics.specs.Text.{Text, report_text}
use Rattle.golog_journal.specs.Leading.{Outlet}
use Rattle.golog_device.specs.Slots.{Standing}
use Rattle.golog_lead.proofs.Writing.{prefix-behind, prefix-more}
use Rattle.golog_lead.specs.Keeping.{EndsBy}
use Rattle.golog_lead.specs.Written.{HasWritten, IsWritten}
use Rattle.golog_commands.specs.Outcome.{Reports}
use Rattle.golog_commands.specs.Writing.{WritesHead, WritesNothing, WritesReport}
use Rattle.golog_main.specs.Runs.{HasEnded, RunsOn}

-- what a lead writes to, where it stays
pub same-outlet : (a b : Outlet) → Some a ≡ Some b → a ≡ b
same-outlet a b same = cc

-- a list that has an end has an answer
pub has-answer : (list : Journal) (answer : Option Answer) → EndsBy list answer → has_end list ≡ true → IsSome answer
has-answer list None ends ended = let no : false ≡ true = sym ends ∙ ended in absurd (cc)
has-answer list (Some a) ends ended = refl

-- so it is of what is the same
pub written-of : (agent : Agent) (list : Journal) (faulted : Bool) (was was' is is' : Option Text) (before before' after after' : ℕ) → was ≡ was' → is ≡ is' → before ≡ before'
    → after ≡ after' → HasWritten agent list was is before after faulted → HasWritten agent list was' is' before' after' faulted
written-of agent list faulted was was' is is' before before' after after' a b c d has =
    subst (λ x. HasWritten agent list x is' before' after' faulted) a
    (subst (λ x. HasWritten agent list was x before' after' faulted) b
    (subst (λ x. HasWritten agent list was is x after' faulted) c
    (subst (λ x. HasWritten agent list was is before x faulted) d has)))

module _ (old new : Option Text) (before after : ℕ) where
  pub reports : (faulted : Bool) (text : Text) (answer : Answer) (status : ℕ) → IsWritten text old new before after faulted
      → (faulted ≡ true → status ≡ 5) → (faulted ≡ false → status ≡ answer_status answer) → Reports status text (answer_status answer) old new before after
  reports true text answer status written five shown = inr (five refl, written.cut refl, written.rose refl)
  reports false text answer status written five shown = inl (shown refl, written.whole refl, written.no_fault refl)

  -- the report of the entries that it has copied was written, where these have an end
  pub scribe-writes : (P : Report → Type 0) (agent own : Agent) (list : Journal) (faulted : Bool) (answer : Option Answer) (status : ℕ)
      → HasWritten own list old new before after faulted → own ≡ agent → P (report_of agent list) → EndsBy list answer → has_end list ≡ true
      → (faulted ≡ true → status ≡ 5) → (faulted ≡ false → IfSome answer (λ a. status ≡ answer_status a))
      → WritesReport P agent [] old new before after status
  scribe-writes P agent own list faulted None status has same so ends ended five shown = absurd (let no : false ≡ true = sym ends ∙ ended in cc)
  scribe-writes P agent own list faulted (Some a) status has same so ends ended five shown = record {
    report = report_of agent list;
    so = so;
    answer = a;
    ended = ends;
    written =
        reports faulted (report_text agent (report_of agent list)) a status
        (subst (λ a. HasWritten a list old new before after faulted) same has) five shown;
  }

-- what is so of a report that was written
pub write-more : (P Q : Report → Type 0) (agent : Agent) (head : Text) (old new : Option Text) (before after status : ℕ) → ((report : Report) → P report → Q report)
    → WritesReport P agent head old new before after status → WritesReport Q agent head old new before after status
write-more P Q agent head old new before after status so writes = record {
  report = writes.report;
  so = so writes.report writes.so;
  answer = writes.answer;
  ended = writes.ended;
  written = writes.written;
}

pub writes-more : {E : Type 0} (P Q : Report → Type 0) (agent : Agent) (head : Text) (old new : Option Text) (before after : ℕ) (r : Result ℕ E) → ((report : Report) → P report → Q report)
    → IfOk r (WritesReport P agent head old new before after) → IfOk r (WritesReport Q agent head old new before after)
writes-more P Q agent head old new before after (Ok status) so writes = write-more P Q agent head old new before after status so writes
writes-more P Q agent head old new before after (Err e) so writes = writes

-- a run of which a report was written has ended
pub has-ended : (P : Report → Type 0) (agent : Agent) (head : Text) (old new : Option Text) (before after status : ℕ) → WritesReport P agent head old new before after status → HasEnded P
has-ended P agent head old new before after status writes = record { report = writes.report; so = writes.so; answer = writes.answer; ended = writes.ended }

-- a run in rounds is one of which the rounds aren't asked
pub rounds-or-threads : (agent : Agent) (before : Journal) (olds news : List Standing) (report : Report) → RunsOn agent true before olds news report → RunsOn agent false before olds news report
rounds-or-threads agent before olds news report on = record {
  journal = on.journal;
  is = on.is;
  lawful = on.lawful;
  short = on.short;
  online = on.online;
  run = on.run;
  scripted = λ rounds. absurd (cc);
}

pub more-ended : (P Q : Report → Type 0) → ((report : Report) → P report → Q report) → HasEnded P → HasEnded Q
more-ended P Q so has = record { report = has.report; so = so has.report has.so; answer = has.answer; ended = has.ended }

-- ---- behind a head

module _ (head : Text) (old mid new : Option Text) (before between after : ℕ) (whole : mid ≡ and_then_bytes old head) (still : between ≡ before) where
  text-behind : (status answered : ℕ) (text : Text) → Reports status text answered mid new between after → Reports status (head ++ text) answered old new before after
  text-behind status answered text (inl (shown, written, none)) =
      inl (shown, written ∙ ap (λ t. and_then_bytes t text) whole ∙ and_then-append old head text, none ∙ still)
  text-behind status answered text (inr (five, prefix, rose)) =
      inr (five, prefix-behind old mid new head text whole prefix, subst (λ n. Rose n after) still rose)

  -- the head was written, and then a report
  pub write-behind : (P : Report → Type 0) (agent : Agent) (status : ℕ) → WritesReport P agent [] mid new between after status → WritesReport P agent head old new before after status
  write-behind P agent status writes = record {
    report = writes.report;
    so = writes.so;
    answer = writes.answer;
    ended = writes.ended;
    written = text-behind status (answer_status writes.answer) (report_text agent writes.report) writes.written;
  }

  pub writes-behind : {E : Type 0} (P : Report → Type 0) (agent : Agent) (r : Result ℕ E) → IfOk r (WritesReport P agent [] mid new between after)
      → IfOk r (WritesReport P agent head old new before after)
  writes-behind P agent (Ok status) writes = write-behind P agent status writes
  writes-behind P agent (Err e) writes = writes

  -- the head was written, and then nothing
  pub head-alone : {E : Type 0} (r : Result ℕ E) → OnErr r (WritesNothing mid new between after) → OnErr r (WritesHead head old new before after)
  head-alone (Ok status) nothing = tt
  head-alone (Err e) nothing = (inr (nothing.0 ∙ whole), nothing.1 ∙ still)

-- a write of the head failed, and the run went on to its end
pub write-cut : (P : Report → Type 0) (agent : Agent) (head : Text) (old new : Option Text) (before after status : ℕ) → AddsPrefix old new head → Rose before after → status ≡ 5 → HasEnded P
    → WritesReport P agent head old new before after status
write-cut P agent head old new before after status prefix rose five has = record {
  report = has.report;
  so = has.so;
  answer = has.answer;
  ended = has.ended;
  written = inr (five, prefix-more old new head (report_text agent has.report) prefix, rose);
}

-- nothing is the head alone too
pub nothing-headed : {E : Type 0} (head : Text) (old new : Option Text) (before after : ℕ) (r : Result ℕ E) → OnErr r (WritesNothing old new before after) → OnErr r (WritesHead head old new before after)
nothing-headed head old new before after (Ok status) nothing = tt
nothing-headed head old new before after (Err e) nothing = (inl nothing.0, nothing.1)
