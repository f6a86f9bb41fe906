-- The lines of a journal that was read, and the text of a report.
use Rattle.std.proofs.Common.{◌≡◌, ℕ, zero, suc, ◌+◌, ◌≤◌, ◌<◌, ◌==◌, Bool, true, false, not, if◌then◌else◌, List, [], ◌∷◌, ◌++◌, get_or, length, length-append, append_assoc, append-nil, Option, Some, None, Ok, refl, sym, ap, ◌∙◌, subst, arith}
use Rattle.std.specs.Prelude.{Contains, slice_get, count_by}
use Rattle.std.specs.List.{flat_map, join_with_byte, slice_split, sum_by}
use Rattle.std.specs.Option.{option_map_or}
use Rattle.std.proofs.lemmas.List.Splits.{join_with_byte-slice_split, length-slice_split, slice_split_at}
use Rattle.std.proofs.lemmas.List.{append_cancel_left}
use Rattle.std.proofs.lemmas.List.Sums.{sum_by-append, sum_by-cons}
use Rattle.std.proofs.lemmas.List.Elements.{All-from_recursion}
use Rattle.golog_rows.specs.Reading.{gives}
use Rattle.golog_tree.specs.declared.agent.Agent.{Agent}
use Rattle.golog_semantics.specs.declared.journal.Answer.{Answer}
use Rattle.golog_semantics.specs.declared.journal.Entry.{Entry}
use Rattle.golog_semantics.specs.declared.journal.Entry.TheVariants.{End}
use Rattle.golog_semantics.specs.declared.journal.PlacedRun.{PlacedRun}
use Rattle.golog_semantics.specs.declared.journal.Report.{Report}
use Rattle.golog_semantics.specs.Execution.{IsOnlineRun, status_of}
use Rattle.golog_semantics.specs.FaultLaws.{AreItsLines}
use Rattle.golog_semantics.specs.Journal.{Journal}
use Rattle.golog_semantics.specs.Online.{IsOnline, fault_of, same_line}
use Rattle.golog_semantics.specs.Reports.{IsReport, SpellsReport}
use Rattle.golog_semantics.specs.Same.{same_values}
use Rattle.golog_semantics.specs.Restart.{journal_text, started}
use Rattle.golog_semantics.specs.Text.{Text, at_each, head_text, line_text, report_text, with_line_feed}
use Rattle.golog_semantics.specs.Truth.{Values}
use Rattle.golog_semantics.specs.Ways.{is_empty}
use Rattle.golog_semantics.specs.WellFormed.{WellFormed}
use Rattle.golog_semantics.proofs.Levels.{same_values-eq, same_values-same}
use Rattle.golog_semantics.proofs.NoFaults.{no_fault_is_online}
use Rattle.golog_reports.specs.Codes.{NO_BODY}
use Rattle.golog_reports.specs.Reads.{empty_report, journal_from, journal_of, line_of, with_line}
use Rattle.golog_reports.proofs.Says.{row-ok, then-ok}
use Rattle.golog_reports.proofs.ReadHeads.{IsHeaded, read-head}
use Rattle.golog_reports.proofs.JournalBack.{said-is-read}
use Rattle.golog_reports.proofs.WholeReports.{journal-fits}
use Rattle.golog_reports.proofs.WrittenSaid.{written-says}
use Rattle.golog_replay.specs.Laws.{OnlineIsAnOnlineRun, ReplaysOnline, RunsReplayOnline}
use Rattle.golog_semantics.specs.Verdicts.{VerdictIs, entry_lines, lines_in}
use Rattle.golog_replay.proofs.Passing.{same-lines}
use Rattle.golog_semantics.specs.declared.journal.Verdict.TheVariants.{Online}

-- ---- as many lines were read as there are entries

-- the last part is empty, and each other part is the line of one more entry
record AreRead (parts : List Text) (before whole : Report) : Type 0 where
  front : List Text
  parts_so : parts ≡ front ++ [] ∷ []
  many : length whole.entries ≡ length before.entries + length front

nothing-in : (t : Text) → is_empty t ≡ true → t ≡ []
nothing-in [] h = refl
nothing-in (x ∷ t) h = absurd (cc)

-- ---- line feeds

abbrev feeds : Text → ℕ
feeds t = count_by (λ b. b == 10) t

feeds-line : (l rest : Text) → feeds ((l ++ 10 ∷ []) ++ rest) ≡ feeds l + 1 + feeds rest
feeds-line l rest =
    let one = sum_by-append (λ b. if b == 10 then 1 else 0) (l ++ 10 ∷ []) rest in
    let two = sum_by-append (λ b. if b == 10 then 1 else 0) l (10 ∷ []) in
    let three = sum_by-cons (λ b. if b == 10 then 1 else 0) 10 [] in omega (arith, one, two, three)

no-feed : (t : Text) → feeds t ≡ 0 → (i d : ℕ) → i < length t → (get_or t i d == 10) ≡ false
no-feed [] h i d low = absurd (omega (arith, low))
no-feed (x ∷ t) h zero d low = go (x == 10) refl
  where
    go : (b : Bool) → (x == 10) ≡ b → (x == 10) ≡ false
    go true e =
        let first = sum_by-cons (λ b. if b == 10 then 1 else 0) x t in
        let one : ◌≡◌ {A = ℕ} (if x == 10 then 1 else 0) 1 = ap (λ b. if b then 1 else 0) e in absurd (omega (arith, first, one, h))
    go false e = e
no-feed (x ∷ t) h (suc i) d low =
    let first = sum_by-cons (λ b. if b == 10 then 1 else 0) x t in no-feed t (omega (arith, first, h)) i d (omega (arith, low))

module _ (agent : Agent) where
  are-read : (before : Report) (first : Text) (parts : List Text) (whole : Report) → (journal_from agent before (first ∷ parts)).outcome ≡ Ok whole
      → AreRead (first ∷ parts) before whole
  unfolding journal_from
  are-read before last [] whole e =
      let r = row-ok (is_empty last) NO_BODY (length before.entries) (gives before) whole e in
      let same : before ≡ whole = let k = r.1 in cc in
      record {
        front = [];
        parts_so = ap (λ t. t ∷ []) (nothing-in last r.0);
        many = let k = ap (λ (w : Report). length w.entries) same in omega (arith, k);
      }
  are-read before first (next ∷ parts) whole e =
      let r = then-ok (line_of agent before.entries first) (λ line. journal_from agent (with_line before line) (next ∷ parts)) whole e in
      let later = are-read (with_line before r.0) next parts whole r.2 in
      record {
        front = first ∷ later.front;
        parts_so = ap (λ ts. first ∷ ts) later.parts_so;
        many = let k = later.many in let l = length-append before.entries (r.0.entry ∷ []) in omega (arith, k, l);
      }

  all-read : (before : Report) (parts : List Text) (whole : Report) → 0 < length parts → (journal_from agent before parts).outcome ≡ Ok whole → AreRead parts before whole
  all-read before [] whole h e = absurd (omega (arith, h))
  all-read before (first ∷ parts) whole h e = are-read before first parts whole e

  journal-read : (start : Option Values) (bytes : Text) (report : Report) → (journal_from agent (empty_report start) (lines_in bytes)).outcome ≡ Ok report
      → AreRead (lines_in bytes) (empty_report start) report
  journal-read start bytes report e =
      let k = length-slice_split (λ b. b == 10) bytes in
      all-read (empty_report start) (lines_in bytes) report (omega (arith, k)) e

  -- ---- lines with their line feeds

  joined : (lines : List Text) → join_with_byte 10 (lines ++ [] ∷ []) ≡ flat_map (with_line_feed agent) lines
  joined [] = refl
  joined (l ∷ []) = sym (append-nil (l ++ 10 ∷ []))
  joined (l ∷ k ∷ lines) = ap (λ t. l ++ 10 ∷ t) (joined (k ∷ lines)) ∙ sym (append_assoc l (10 ∷ []) (flat_map (with_line_feed agent) (k ∷ lines)))

  least : (lines : List Text) → length lines ≤ feeds (flat_map (with_line_feed agent) lines)
  least [] = omega arith
  least (l ∷ lines) =
      let k = feeds-line l (flat_map (with_line_feed agent) lines) in
      let rest = least lines in omega (arith, k, rest)

  cut-lines : (lines : List Text) → feeds (flat_map (with_line_feed agent) lines) ≡ length lines → lines_in (flat_map (with_line_feed agent) lines) ≡ lines ++ [] ∷ []
  cut-lines [] h = refl
  cut-lines (l ∷ lines) h =
      let rest = flat_map (with_line_feed agent) lines in
      let k = feeds-line l rest in
      let few = least lines in
      ap lines_in (append_assoc l (10 ∷ []) rest)
      ∙ slice_split_at (λ b. b == 10) l 10 rest (no-feed l (omega (arith, k, few, h))) refl
      ∙ ap (λ ts. l ∷ ts) (cut-lines lines (omega (arith, k, few, h)))

-- ---- what is said at each place

module _ {A : Type 0} (say : Journal → Entry → A) where
  said-all : (before entries : Journal) (front : List A) → length front ≡ length entries
      → ((b : Journal) (e : Entry) (later : Journal) → entries ≡ b ++ e ∷ later → slice_get front (length b) ≡ Some (say (before ++ b) e))
      → front ≡ at_each say before entries
  said-all before [] [] long all = refl
  said-all before [] (f ∷ front) long all = absurd (omega (arith, long))
  said-all before (e ∷ entries) [] long all = absurd (omega (arith, long))
  said-all before (e ∷ entries) (f ∷ front) long all =
      let first : Some f ≡ Some (say (before ++ []) e) = all [] e entries refl in
      let same : f ≡ say before e = let k : f ≡ say (before ++ []) e = cc in k ∙ ap (λ b. say b e) (append-nil before) in
      ap (λ x. x ∷ front) same
      ∙ ap (λ xs. say before e ∷ xs)
      (said-all (before ++ e ∷ []) entries front (omega (arith, long))
      (λ b x later is. all (e ∷ b) x later (ap (λ es. e ∷ es) is) ∙ ap (λ j. Some (say j x)) (sym (append_assoc before (e ∷ []) b))))

  said-there : (before b : Journal) (e : Entry) (later : Journal) (behind : List A)
      → slice_get (at_each say before (b ++ e ∷ later) ++ behind) (length b) ≡ Some (say (before ++ b) e)
  said-there before [] e later behind = ap (λ j. Some (say j e)) (sym (append-nil before))
  said-there before (d ∷ b) e later behind =
      said-there (before ++ d ∷ []) b e later behind ∙ ap (λ j. Some (say j e)) (append_assoc before (d ∷ []) b)

length-said : {A : Type 0} (say : Journal → Entry → A) (before entries : Journal) → length (at_each say before entries) ≡ length entries
length-said say before [] = refl
length-said say before (e ∷ entries) = let k = length-said say (before ++ e ∷ []) entries in omega (arith, k)

get-left : {A : Type 0} (xs ys : List A) (i : ℕ) → i < length xs → slice_get (xs ++ ys) i ≡ slice_get xs i
get-left [] ys i h = absurd (omega (arith, h))
get-left (x ∷ xs) ys zero h = refl
get-left (x ∷ xs) ys (suc i) h = get-left xs ys i (omega (arith, h))

-- The bytes are those behind the head. The lines are read over an agent, and are the texts of entries for the one that
-- starts from the report's start.
module _ (agent own : Agent) (bytes : Text) (report : Report) (read : (journal_from agent (empty_report report.start) (lines_in bytes)).outcome ≡ Ok report) where
  parts : AreRead (lines_in bytes) (empty_report report.start) report
  parts = journal-read agent report.start bytes report read

  its-line : (given : Option Text) (line : Text) → same_line given line ≡ true → given ≡ Some line
  its-line None line h = absurd (cc)
  its-line (Some l) line h = ap Some (same_values-eq l line h)

  -- the bytes are the text, where each line is that of its entry
  text-so : AreItsLines own (Some (lines_in bytes)) report → bytes ≡ report_text own report
  unfolding report_text
  text-so lines =
      let many = parts.many in
      let front =
      said-all (line_text own report.runs) [] report.entries parts.front (omega (arith, many))
      (λ b e later is.
      sym
      (ap (λ ls. slice_get ls (length b)) parts.parts_so
      ∙ get-left parts.front ([] ∷ []) (length b)
      (let k = ap (λ (j : Journal). length j) is in let l = length-append b (e ∷ later) in omega (arith, many, k, l)))
      ∙ its-line (slice_get (lines_in bytes) (length b)) (line_text own report.runs b e) (lines b e later is)) in
      sym (join_with_byte-slice_split 10 bytes) ∙ ap (join_with_byte 10) parts.parts_so ∙ joined own parts.front
      ∙ ap (flat_map (with_line_feed own)) front

  -- and the other way round
  lines-so : bytes ≡ report_text own report → AreItsLines own (Some (lines_in bytes)) report
  unfolding report_text
  lines-so is b e later at =
      let lines = at_each (line_text own report.runs) [] report.entries in
      let many = parts.many in
      let counted = length-slice_split (λ b. b == 10) bytes in
      let whole = ap (λ (ls : List Text). length ls) parts.parts_so in
      let more = length-append parts.front ([] ∷ []) in
      let long = length-said (line_text own report.runs) [] report.entries in
      let few : feeds bytes ≡ length lines = omega (arith, many, counted, whole, more, long) in
      let cut : lines_in bytes ≡ lines ++ [] ∷ [] = ap lines_in is ∙ cut-lines own lines (sym (ap feeds is) ∙ few) in
      let there : slice_get (lines_in bytes) (length b) ≡ Some (line_text own report.runs b e) =
      ap (λ ls. slice_get ls (length b)) (cut ∙ ap (λ es. at_each (line_text own report.runs) [] es ++ [] ∷ []) at)
      ∙ said-there (line_text own report.runs) [] b e later ([] ∷ []) in
      ap (λ g. same_line g (line_text own report.runs b e)) there ∙ same_values-same (line_text own report.runs b e)

module _ (agent : Agent) (well : WellFormed agent) (bytes : Text) (report : Report) (read : (journal_of agent bytes).outcome ≡ Ok report) where
  abbrev own : Agent
  own = started agent report.start

  head : IsHeaded agent bytes report report.start
  head = read-head agent well bytes report read

  -- the lines of the entries are those behind the head
  its-lines : entry_lines own bytes report.start ≡ lines_in head.rest
  its-lines = same-lines agent bytes report.start ∙ head.lines

  abbrev head_of : Text
  head_of = option_map_or (head_text agent) report.start []

  spells : AreItsLines own (Some (entry_lines own bytes report.start)) report → SpellsReport agent bytes report
  spells lines = record {
    fits = journal-fits agent well bytes report read;
    text =
        head.head
        ∙ ap (λ t. head_of ++ t) (text-so agent own head.rest report head.says (subst (λ ls. AreItsLines own (Some ls) report) its-lines lines));
  }

  has-lines : SpellsReport agent bytes report → AreItsLines own (Some (entry_lines own bytes report.start)) report
  has-lines spelled =
      subst (λ ls. AreItsLines own (Some ls) report) (sym its-lines)
      (lines-so agent own head.rest report head.says (append_cancel_left head_of head.rest (report_text own report) (sym head.head ∙ spelled.text)))

pub online_is_an_online_run : OnlineIsAnOnlineRun
online_is_an_online_run agent well bytes report read answer =
    let own = started agent report.start in
    let tells = no_fault_is_online.of_report own (Some (entry_lines own bytes report.start)) report in
    let spells-so : VerdictIs own bytes report (Online answer) → SpellsReport agent bytes report = λ v. spells agent well bytes report read (tells.its_lines v.0) in
    record {
      run = λ v. record {
        report = report;
        begun = refl;
        spelled = spells-so v;
        online = tells.online v.0;
        ended = record { answer = answer; stands = v.1; shown = refl };
      };
      online = λ v. tells.online v.0;
      spelled = spells-so;
      verdict = λ spelled online ends. (tells.none online (has-lines agent well bytes report read spelled), ends);
    }

pub runs_replay_online : RunsReplayOnline
runs_replay_online agent well apart start bytes status run =
    let report = run.report in
    let answer = run.ended.answer in
    let read : (journal_of agent bytes).outcome ≡ Ok report =
    ap (λ b. (journal_of agent b).outcome) run.spelled.text
    ∙ said-is-read agent well apart report run.spelled.fits (journal_text agent report) (written-says agent well report run.spelled.fits) in
    let online = subst (λ s. IsOnline (started agent s) report) (sym run.begun) run.online in
    let verdict = (online_is_an_online_run agent well bytes report read answer).verdict run.spelled online run.ended.stands in
    (read, subst (λ s. VerdictIs (started agent s) bytes report (Online answer)) run.begun verdict)
