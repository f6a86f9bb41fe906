-- An entry has no fault exactly where it keeps the rules, and a report exactly where it is online.
use Rattle.std.proofs.Common.{◌≡◌, ℕ, Bool, true, false, IsTrue, List, [], ◌∷◌, ◌++◌, length, refl, sym, ap, ◌∙◌, subst, Option, Some, None}
use Rattle.std.specs.List.{AllByRecursion}
use Rattle.std.specs.Option.{option_or}
use Rattle.std.proofs.lemmas.List.{append_assoc, append-nil}
use Rattle.golog_tree.specs.declared.agent.Agent.{Agent}
use Rattle.golog_semantics.specs.declared.journal.Entry.{Entry}
use Rattle.golog_semantics.specs.declared.journal.PlacedRun.{PlacedRun}
use Rattle.golog_semantics.specs.declared.journal.Report.{Report}
use Rattle.golog_semantics.specs.declared.journal.Why.{Why}
use Rattle.golog_semantics.specs.Journal.{Journal}
use Rattle.golog_semantics.specs.Progress.{values_after, left_after}
use Rattle.golog_semantics.specs.Text.{Text, at_each}
use Rattle.golog_semantics.specs.Online.{Fault, Keeps, EachKeeps, keeps_text, rules_at, fault_among, first_some, fault_at, first_fault, is_whole, too_short, fault_of, IsOnline, IsOnlineSoFar}
use Rattle.golog_semantics.specs.FaultLaws.{FaultsTell, AreItsLines, ReportFaultsTell, NoFaultIsOnline}
use Rattle.golog_semantics.proofs.Pushed.{or-left, or-right}

-- the rules that are kept are those among which no fault is
abbrev AllKept : List (Why × Bool) → Type 0
AllKept rules = AllByRecursion (λ r. r.1 ≡ true) rules

rules-kept : (place : ℕ) (rules : List (Why × Bool)) → fault_among place rules ≡ None → AllKept rules
rules-kept place [] h = tt
rules-kept place ((w, true) ∷ rules) h = (refl, rules-kept place rules h)
rules-kept place ((w, false) ∷ rules) h = absurd (cc)

none-among : (place : ℕ) (rules : List (Why × Bool)) → AllKept rules → fault_among place rules ≡ None
none-among place [] h = refl
none-among place ((w, true) ∷ rules) h = none-among place rules h.1
none-among place ((w, false) ∷ rules) h = absurd (let k : false ≡ true = h.0 in cc)

module _ (agent : Agent) (lines : Option (List Text)) (runs : List PlacedRun) (before : Journal) (e : Entry) where
  abbrev its_rules : List (Why × Bool)
  its_rules = rules_at agent before runs lines (values_after agent before) (left_after agent before) e

  kept-so : AllKept its_rules → Keeps agent before runs e
  kept-so h = record {
    after = h.0;
    poster = h.1.0;
    place = h.1.1.0;
    taken = h.1.1.1.0;
    step = h.1.1.1.1.0;
    run = h.1.1.1.1.1.0;
    answer = h.1.1.1.1.1.1.0;
    close = h.1.1.1.1.1.1.1.0;
  }

  all-so : Keeps agent before runs e → IsTrue (keeps_text agent before runs lines e) → AllKept its_rules
  all-so k text = (k.after, (k.poster, (k.place, (k.taken, (k.step, (k.run, (k.answer, (k.close, (text, tt)))))))))

  pub faults_tell : FaultsTell agent lines runs before e
  faults_tell = record {
    kept = λ h. kept-so (rules-kept (length before) its_rules h);
    spelled = λ h. (rules-kept (length before) its_rules h).1.1.1.1.1.1.1.1.0;
    none = λ k text. none-among (length before) its_rules (all-so k text);
  }

-- what is said at each place is nothing exactly where it is nothing wherever an entry stands
module _ (say : Journal → Entry → Option Fault) where
  none-at : (start before : Journal) (e : Entry) (later : Journal) → first_some (at_each say start (before ++ e ∷ later)) ≡ None → say (start ++ before) e ≡ None
  none-at start [] e later h =
      subst (λ s. say s e ≡ None) (sym (append-nil start)) (or-left (say start e) (first_some (at_each say (start ++ e ∷ []) later)) h)
  none-at start (d ∷ before) e later h =
      subst (λ s. say s e ≡ None) (append_assoc start (d ∷ []) before)
      (none-at (start ++ d ∷ []) before e later (or-right (say start d) (first_some (at_each say (start ++ d ∷ []) (before ++ e ∷ later))) h))

  each-none : (start entries : Journal) → ((before : Journal) (e : Entry) (later : Journal) → entries ≡ before ++ e ∷ later → say (start ++ before) e ≡ None)
      → first_some (at_each say start entries) ≡ None
  each-none start [] all = refl
  each-none start (d ∷ entries) all =
      ap (λ o. option_or o (first_some (at_each say (start ++ d ∷ []) entries))) (subst (λ s. say s d ≡ None) (append-nil start) (all [] d entries refl))
      ∙ each-none (start ++ d ∷ []) entries
      (λ before e later is. subst (λ s. say s e ≡ None) (sym (append_assoc start (d ∷ []) before)) (all (d ∷ before) e later (ap (λ es. d ∷ es) is)))

module _ (agent : Agent) (lines : Option (List Text)) (report : Report) where
  abbrev say : Journal → Entry → Option Fault
  say = fault_at agent lines report.runs

  here : first_fault agent lines report ≡ None → (before : Journal) (e : Entry) (later : Journal) → report.entries ≡ before ++ e ∷ later → say before e ≡ None
  unfolding first_fault
  here h before e later is = none-at say [] before e later (ap (λ es. first_some (at_each say [] es)) (sym is) ∙ h)

  each-kept : first_fault agent lines report ≡ None → EachKeeps agent report
  each-kept h before e later is = (faults_tell agent lines report.runs before e).kept (here h before e later is)

  each-spelled : first_fault agent lines report ≡ None → AreItsLines agent lines report
  each-spelled h before e later is = (faults_tell agent lines report.runs before e).spelled (here h before e later is)

  none-first : EachKeeps agent report → AreItsLines agent lines report → first_fault agent lines report ≡ None
  unfolding first_fault
  none-first kept spelled =
      each-none say [] report.entries
      (λ before e later is. (faults_tell agent lines report.runs before e).none (kept before e later is) (spelled before e later is))

  whole-so : too_short agent lines report.entries ≡ None → is_whole agent report.entries ≡ true
  whole-so h = go (is_whole agent report.entries) refl
    where
      go : (b : Bool) → is_whole agent report.entries ≡ b → is_whole agent report.entries ≡ true
      go true e = e
      go false e = absurd (let k : Some _ ≡ None = rw e at h in cc)

  first-so : fault_of agent lines report ≡ None → first_fault agent lines report ≡ None
  unfolding fault_of
  first-so h = or-left (first_fault agent lines report) (too_short agent lines report.entries) h

  short-so : fault_of agent lines report ≡ None → too_short agent lines report.entries ≡ None
  unfolding fault_of
  short-so h = or-right (first_fault agent lines report) (too_short agent lines report.entries) h

  none-so : first_fault agent lines report ≡ None → is_whole agent report.entries ≡ true → fault_of agent lines report ≡ None
  unfolding fault_of
  none-so h k = ap (λ o. option_or o (too_short agent lines report.entries)) h ∙ rw k refl

  pub report_faults_tell : ReportFaultsTell agent lines report
  report_faults_tell = record {
    online_so_far = λ h. record { entries = each-kept h };
    lines_so_far = each-spelled;
    none_so_far = λ online spelled. none-first online.entries spelled;
    online = λ h. record { entries = each-kept (first-so h); whole = whole-so (short-so h) };
    its_lines = λ h. each-spelled (first-so h);
    none = λ online spelled. none-so (none-first online.entries spelled) online.whole;
  }

pub no_fault_is_online : NoFaultIsOnline
no_fault_is_online = record { at_entry = faults_tell; of_report = report_faults_tell }

-- without lines, there is no fault exactly in an online execution
module _ (agent : Agent) (report : Report) where
  pub no-fault-so_far : IsOnlineSoFar agent report → first_fault agent None report ≡ None
  no-fault-so_far online = (report_faults_tell agent None report).none_so_far online (λ before e later is. refl)

  pub so_far-no-fault : first_fault agent None report ≡ None → IsOnlineSoFar agent report
  so_far-no-fault h = (report_faults_tell agent None report).online_so_far h

  pub online-no-fault : fault_of agent None report ≡ None → IsOnline agent report
  online-no-fault h = (report_faults_tell agent None report).online h
