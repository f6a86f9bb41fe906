-- From a journal to its report, and to what a run of it comes to.
use Rattle.std.proofs.Common.{◌≡◌, zero, suc, Bool, true, false, not, ◌||◌, List, [], ◌∷◌, ◌++◌, map, Option, Some, None, Result, Ok, Err, IfOk, refl, sym, ap, ◌∙◌, subst, arith, inl, inr, ◌⊎◌}
use Rattle.std.specs.Prelude.{Contains, IfSome}
use Rattle.std.specs.List.{list_any, list_all}
use Rattle.std.proofs.lemmas.List.Elements.{Contains-append_cases}
use Rattle.golog_tree.specs.declared.agent.Agent.{Agent}
use Rattle.golog_semantics.specs.declared.journal.Entry.{Entry}
use Rattle.golog_semantics.specs.declared.journal.Entry.TheVariants.{End}
use Rattle.golog_semantics.specs.declared.journal.Answer.{Answer}
use Rattle.golog_semantics.specs.declared.journal.Report.{Report}
use Rattle.golog_semantics.specs.Journal.{Journal, devices, has_end, is_end, is_close, is_open}
use Rattle.golog_semantics.specs.Online.{is_whole}
use Rattle.golog_semantics.specs.Inline.{lead, rounds, inline_journal, Scripted}
use Rattle.golog_semantics.specs.InlineText.{inline_report, report_of, new_scripted}
use Rattle.golog_semantics.specs.Dealt.{Script}
use Rattle.golog_semantics.specs.InSorts.{AreInSorts}
use Rattle.golog_semantics.specs.Restart.{started}
use Rattle.golog_semantics.specs.Text.{Text, at_each, head_text, report_text}
use Rattle.golog_semantics.specs.Truth.{Values}
use Rattle.golog_semantics.specs.WellFormed.{WellFormed}
use Rattle.golog_semantics.specs.Execution.{status_of}
use Rattle.golog_semantics.proofs.Tests.{and_cases, or_first, or_second}
use Rattle.golog_semantics.proofs.LaterRuns.{whole_is_online}
use Rattle.golog_certain.proofs.JournalSo.{journal_so}
use Rattle.golog_journal.specs.Boards.{AgentJournal, IsBoardList, is_lawful}
use Rattle.golog_journal.proofs.Lawful.{lawful-parts}
use Rattle.golog_device.specs.Slots.{Standing}
use Rattle.golog_script.specs.declared.scripts.Script.{Script as Named}
use Rattle.golog_lead.specs.Rounds.{FollowsRounds}
use Rattle.golog_lead.specs.Short.{IsShort}
use Rattle.golog_lead.proofs.WrittenLines.{at_each-append}
use Rattle.golog_commands.specs.Demos.{is_short}
use Rattle.golog_commands.specs.Inputs.{scripts_for}
use Rattle.golog_commands.specs.Runs.{AllTellLeft, AreTextsOf, FollowsScripts, HasBegun, HasBegunWith, IsCutShort, IsReportOf, IsRunOf, head_of}
use Rattle.golog_commands.proofs.Inlined.{all-the-way, cut-short}
use Rattle.golog_commands.proofs.FromStarts.{from-start, same-text}

-- ---- the end

any-contains : (f : Entry → Bool) (xs : List Entry) (x : Entry) → Contains xs x → f x ≡ true → list_any f xs ≡ true
any-contains f [] x (k, l, e) h = absurd (omega (arith, l))
any-contains f (y ∷ xs) x (zero, l, e) h = or_first (f y) (list_any f xs) (subst (λ z. f z ≡ true) (sym e) h)
any-contains f (y ∷ xs) x (suc k, l, e) h = or_second (f y) (list_any f xs) (any-contains f xs x (k, omega (arith, l), e) h)

all-contains : (f : Entry → Bool) (xs : List Entry) (x : Entry) → Contains xs x → list_all f xs ≡ true → f x ≡ true
all-contains f [] x (k, l, e) h = absurd (omega (arith, l))
all-contains f (y ∷ xs) x (zero, l, e) h = subst (λ z. f z ≡ true) e (and_cases (f y) (list_all f xs) h).0
all-contains f (y ∷ xs) x (suc k, l, e) h = all-contains f xs x (k, omega (arith, l), e) (and_cases (f y) (list_all f xs) h).1

all-behind : (xs ys : List Bool) → list_all (λ b. b) (xs ++ ys) ≡ true → list_all (λ b. b) ys ≡ true
all-behind [] ys h = h
all-behind (x ∷ xs) ys h = all-behind xs ys (and_cases x (list_all (λ b. b) (xs ++ ys)) h).1

module _ (agent : Agent) where
  -- where an end stands none stands before it
  unended : (before closings : Journal) (a : Answer) → IsBoardList agent (before ++ End a ∷ closings) → has_end before ≡ false
  unended before closings a lawful =
      let all = ap (list_all (λ b. b)) (sym (at_each-append (is_lawful agent) [] before (End a ∷ closings))) ∙ lawful.lawful in
      let here = and_cases (is_lawful agent before (End a)) (list_all (λ b. b) (at_each (is_lawful agent) (before ++ End a ∷ []) closings)) (all-behind (at_each (is_lawful agent) [] before) (at_each (is_lawful agent) before (End a ∷ closings)) all) in
      let after = (lawful-parts agent before (End a) here.0).after in
      closed (has_end before) after
    where
      closed : (b : Bool) → (not b || false) ≡ true → b ≡ false
      closed true h = absurd (cc)
      closed false h = refl

  -- so it is the only one
  only-end : (before closings : Journal) (a b : Answer) → IsBoardList agent (before ++ End a ∷ closings) → list_all is_close closings ≡ true
      → Contains (before ++ End a ∷ closings) (End b) → b ≡ a
  only-end before closings a b lawful closes there = by (Contains-append_cases before (End a ∷ closings) (End b) there)
    where
      behind : Contains (End a ∷ closings) (End b) → b ≡ a
      behind (zero, l, e) = cc
      behind (suc k, l, e) = let no : false ≡ true = all-contains is_close closings (End b) (k, omega (arith, l), e) closes in absurd (cc)

      by : Contains before (End b) ⊎ Contains (End a ∷ closings) (End b) → b ≡ a
      by (inl c) = let no : false ≡ true = sym (unended before closings a lawful) ∙ any-contains is_end before (End b) c refl in absurd (cc)
      by (inr c) = behind c

  pub inline-is : (scripts : List Scripted) → (rounds agent (lead agent) 3000000 (record { journal = []; devices = scripts })).journal ≡ inline_journal agent scripts
  unfolding inline_journal
  inline-is scripts = refl

-- What is written behind the head of a journal with this start.
module _ (own : Agent) (start : Option Values) where
  abbrev again : Agent
  again = started own start

  follows : (scripts : List Script) (journal : Journal) (text : Text) (answer : Answer)
      → IsBoardList again journal → Contains journal (End answer) → text ≡ head_of own start ++ report_text again (report_of again journal)
      → FollowsRounds (lead again) IsShort again scripts [] journal → FollowsScripts own start scripts text (status_of answer)
  follows scripts journal text answer lawful ends is (inl whole) =
      inl (all-the-way own start scripts journal text (status_of answer) (whole ∙ inline-is again (map new_scripted scripts)) is (record { answer = answer; stands = ends; shown = refl }))
  follows scripts journal text answer lawful ends is (inr (before, later, closings, a, short, whole, closes, cut)) =
      let same : answer ≡ a =
      only-end again before closings a answer (subst (IsBoardList again) cut lawful) closes (subst (λ j. Contains j (End answer)) cut ends) in
      inr
      (subst (λ b. IsCutShort own start scripts text (status_of b)) (sym same)
      (cut-short own start scripts before later closings text a (sym (inline-is again (map new_scripted scripts)) ∙ whole) short
      (is ∙ ap (λ j. head_of own start ++ report_text again (report_of again j)) cut)))

  -- what a report comes to that is written
  pub run-of : (scripts : List Script) (inline : Bool) (olds news : List Standing) (report : Report) (text : Text) (answer : Answer)
      → WellFormed again → IfSome start (AreInSorts own) → IsReportOf again scripts inline olds news report
      → text ≡ head_of own start ++ report_text again report → Contains report.entries (End answer)
      → IsRunOf own start scripts inline olds news text (status_of answer)
  run-of scripts inline olds news report text answer formed sorts of_journal is ends =
      let journal = of_journal.journal in
      let plain = report_of again journal in
      let text_is : text ≡ head_of own start ++ report_text again plain =
      is ∙ ap (λ r. head_of own start ++ report_text again r) of_journal.is in
      let there : Contains journal (End answer) = subst (λ (r : Report). Contains r.entries (End answer)) of_journal.is ends in
      record {
        online = record {
          report = record plain { start = start };
          begun = refl;
          spelled = record {
            fits = from-start own start plain sorts of_journal.fits;
            text = text_is ∙ ap (λ t. head_of own start ++ t) (sym (same-text again start plain));
          };
          online = record { entries = of_journal.online.entries; whole = of_journal.online.whole };
          ended = record { answer = answer; stands = there; shown = refl };
        };
        so = journal_so again formed plain (record { entries = of_journal.online.entries });
        dealt = of_journal.dealt;
        scripted = λ rounds tell. follows scripts journal text answer of_journal.lawful there text_is (of_journal.scripted rounds tell);
      }

-- so it is of the agent that was restarted, whose scripts and head are those of the agent
restarted-run : (own : Agent) (start : Option Values) (listed : List Named) (inline : Bool) (olds news : List Standing) (report : Report) (text : Text) (answer : Answer)
    → WellFormed (started own start) → IfSome start (AreInSorts own) → IsReportOf (started own start) (scripts_for (started own start) listed) inline olds news report
    → text ≡ head_of (started own start) start ++ report_text (started own start) report → Contains report.entries (End answer)
    → IsRunOf own start (scripts_for own listed) inline olds news text (status_of answer)
unfolding head_text
restarted-run own None listed inline olds news report text answer formed sorts of_journal is ends =
    run-of own None (scripts_for own listed) inline olds news report text answer formed sorts of_journal is ends
restarted-run own (Some values) listed inline olds news report text answer formed sorts of_journal is ends =
    run-of own (Some values) (scripts_for own listed) inline olds news report text answer formed sorts of_journal is ends

pub ready-run : (own agent : Agent) (start : Option Values) → agent ≡ started own start → (listed : List Named) (inline : Bool) (olds news : List Standing) (report : Report)
    (text : Text) (answer : Answer) → WellFormed agent → IfSome start (AreInSorts own) → IsReportOf agent (scripts_for agent listed) inline olds news report
    → text ≡ head_of agent start ++ report_text agent report → Contains report.entries (End answer)
    → IsRunOf own start (scripts_for own listed) inline olds news text (status_of answer)
ready-run own agent start same listed inline olds news report text answer formed sorts of_journal is ends =
    restarted-run own start listed inline olds news report text answer (subst WellFormed same formed) sorts
    (subst (λ a. IsReportOf a (scripts_for a listed) inline olds news report) same of_journal)
    (is ∙ ap (λ a. head_of a start ++ report_text a report) same) ends

-- a whole journal has ended
pub whole-ended : (agent : Agent) (journal : Journal) → is_whole agent journal ≡ true → has_end journal ≡ true
whole-ended agent journal whole = (and_cases (has_end journal) (not (list_any (λ d. is_open d journal) (devices agent))) whole).0

-- a report of a run has ended
pub ended : (agent : Agent) (scripts : List Script) (inline : Bool) (olds news : List Standing) (report : Report) → IsReportOf agent scripts inline olds news report
    → has_end report.entries ≡ true
ended agent scripts inline olds news report of_journal =
    let journal = of_journal.journal in
    ap (λ (r : Report). has_end r.entries) of_journal.is
    ∙ whole-ended agent journal ((whole_is_online agent (report_of agent journal)).ended of_journal.online)

-- devices that have begun with these texts have begun with the scripts of which these are texts
pub begun-scripts : {E : Type 0} (agent : Agent) (texts : List Text) (scripts : List Script) (olds news : List Standing) (r : Result AgentJournal E)
    → AreTextsOf texts scripts → IfOk r (HasBegun agent texts olds news) → IfOk r (HasBegunWith agent scripts olds news)
begun-scripts agent texts scripts olds news (Ok journal) are begun = record { texts = texts; are = are; begun = begun }
begun-scripts agent texts scripts olds news (Err e) are begun = begun

-- where neither memory nor fuel was wanted, and the devices tell what is left of their scripts, it is the report of the rounds
pub as-rounds : (agent : Agent) (scripts : List Script) (olds news : List Standing) (report : Report) (answer : Answer) → IsReportOf agent scripts true olds news report
    → Contains report.entries (End answer) → is_short answer ≡ false → AllTellLeft agent olds → report ≡ inline_report agent scripts
as-rounds agent scripts olds news report answer of_journal ends long tell = of_journal.is ∙ ap (report_of agent) (whole (of_journal.scripted refl tell))
  where
    journal : Journal
    journal = of_journal.journal

    there : Contains journal (End answer)
    there = subst (λ (r : Report). Contains r.entries (End answer)) of_journal.is ends

    by-answer : {A : Type 0} → IsShort answer → A
    by-answer (inl e) = let no : true ≡ false = sym (ap is_short e) ∙ long in absurd (cc)
    by-answer (inr e) = let no : true ≡ false = sym (ap is_short e) ∙ long in absurd (cc)

    whole : FollowsRounds (lead agent) IsShort agent scripts [] journal → journal ≡ inline_journal agent (map new_scripted scripts)
    whole (inl all) = all ∙ inline-is agent (map new_scripted scripts)
    whole (inr (before, later, closings, a, short, split, closes, cut)) =
        let same : answer ≡ a = only-end agent before closings a answer (subst (IsBoardList agent) cut of_journal.lawful) closes (subst (λ j. Contains j (End answer)) cut there) in
        by-answer (subst IsShort (sym same) short)
