-- Bytes that are read as a report say it line by line.
use Rattle.std.proofs.Common.{◌≡◌, ℕ, ◌+◌, ◌<◌, Bool, true, false, cond, ◌&&◌, ◌==◌, Option, Some, None, Ok, List, [], ◌∷◌, ◌++◌, length, length-append, refl, sym, ap, ◌∙◌, subst, arith, append-nil}
use Rattle.std.specs.Prelude.{codes, decimal, find, nat_eq, option_map, slice_get}
use Rattle.std.specs.List.{flat_map, join_with_byte}
use Rattle.std.specs.Option.{option_map_or}
use Rattle.std.proofs.lemmas.Bool.{eq-eqb, eqb-true, leb-true}
use Rattle.std.proofs.lemmas.List.{append_assoc, append_cancel_left}
use Rattle.std.proofs.lemmas.List.Splits.{join_with_byte-slice_split}
use Rattle.golog_base.specs.Numbers.{amount}
use Rattle.golog_rows.specs.Reading.{gives}
use Rattle.golog_tree.specs.declared.agent.Agent.{Agent}
use Rattle.golog_tree.specs.declared.prog.Label.{Label}
use Rattle.golog_semantics.specs.declared.journal.PlacedRun.{PlacedRun}
use Rattle.golog_semantics.specs.declared.journal.Report.{Report}
use Rattle.golog_semantics.specs.InlineText.{placed_run}
use Rattle.golog_semantics.specs.Journal.{Journal}
use Rattle.golog_semantics.specs.Online.{same_line}
use Rattle.golog_semantics.specs.Reports.{SpellsReport, place_limit}
use Rattle.golog_semantics.specs.Restart.{started}
use Rattle.golog_semantics.specs.Text.{Text, at_each, head_text, line_text, report_text, run_at, with_line_feed}
use Rattle.golog_semantics.specs.Verdicts.{entry_lines}
use Rattle.golog_semantics.specs.WellFormed.{WellFormed}
use Rattle.golog_semantics.specs.Ways.{is_empty}
use Rattle.golog_semantics.proofs.Words.{and-left, and-right}
use Rattle.std.specs.Cmp.Lexicographic.{same_text}
use Rattle.golog_reports.specs.declared.reading.Line.{Line}
use Rattle.golog_reports.specs.Codes.{NO_BODY}
use Rattle.golog_reports.specs.Forms.{is_natural}
use Rattle.golog_reports.specs.Laws.{TextsAreKept}
use Rattle.golog_reports.specs.Reads.{empty_report, has_small, is_in_place, is_small, journal_from, journal_of, line_of, lines_in, with_line}
use Rattle.golog_reports.specs.ReadsAs.{AreLines, MayStand, ReadsAs, said_body, said_line}
use Rattle.golog_reports.specs.Said.{body_said, is_body}
use Rattle.golog_reports.proofs.Decimals.{decimal-amount}
use Rattle.golog_reports.proofs.EntryBodies.{body-text, body_of_entry}
use Rattle.golog_reports.proofs.JournalBack.{Clear, clear-next, placed-elsewhere, run_at-behind, stands-next}
use Rattle.golog_reports.proofs.NamesOnly.{line-only, named-only}
use Rattle.golog_reports.proofs.SaidOnly.{said-only}
use Rattle.golog_reports.proofs.Says.{is_read, row-ok, then-ok}
use Rattle.golog_reports.proofs.ReadHeads.{IsHeaded, read-head}
use Rattle.golog_reports.proofs.WholeReports.{journal-fits}

module _ (agent : Agent) (well : WellFormed agent) where
  -- a line that was read is the line of its entry
  record LineSays (before : Journal) (text : Text) (line : Line) : Type 0 where
    old : Option ℕ
    may : MayStand agent line.entry old
    is : text ≡ decimal (length before) ++ codes " " ++ said_body agent line.run old line.entry

  line-says : (before : Journal) (text : Text) (line : Line) → (line_of agent before text).outcome ≡ Ok line → LineSays before text line
  unfolding is_in_place
  line-says before text line e =
      let n = length before in
      let r = is_read agent before text line e in
      let number = r.said.number in
      let forms = said-only text r.said r.said_is in
      let its_place = and-left (is_small number && nat_eq (amount number) n) (has_small r.said.body) r.in_place in
      let low = leb-true (amount number) place_limit (and-left (is_small number) (nat_eq (amount number) n) its_place) in
      let same : number ≡ decimal n =
      sym (decimal-amount number (and-left (is_natural number) (is_body r.said.body) forms.0) (omega (arith, low)))
      ∙ ap decimal (eqb-true (amount number) n (and-right (is_small number) (nat_eq (amount number) n) its_place)) in
      let has = line-only agent well before r.what line r.line_is in
      let body : r.said.body ≡ body_of_entry agent line.run has.0 line.entry =
      named-only agent r.said.body r.what (and-right (is_natural number) (is_body r.said.body) forms.0)
      (and-right (is_small number && nat_eq (amount number) n) (has_small r.said.body) r.in_place) r.what_is ∙ has.2 in
      record {
        old = has.0;
        may = has.1;
        is = sym forms.1 ∙ (λ i. same i ++ codes " " ++ body_said (body i)) ∙ ap (λ t. decimal n ++ codes " " ++ t) (body-text agent line.run has.0 line.entry);
      }

  run_at-before : (runs others : List PlacedRun) (k : ℕ) → run_at others k ≡ None → run_at (runs ++ others) k ≡ run_at runs k
  run_at-before [] others k h = h
  run_at-before (r ∷ runs) others k h = go (r.place == k) (run_at-before runs others k h)
    where
      go : (b : Bool) → run_at (runs ++ others) k ≡ run_at runs k
          → option_map (λ (q : PlacedRun). q.labels) (cond b (Some r) (find (λ q. q.place == k) (runs ++ others))) ≡ option_map (λ (q : PlacedRun). q.labels) (cond b (Some r) (find (λ q. q.place == k) runs))
      go true e = refl
      go false e = e

  placed-here : (n : ℕ) (run : Option (List Label)) → run_at (placed_run n run) n ≡ run
  placed-here n None = refl
  placed-here n (Some labels) = ap (λ b. option_map (λ (q : PlacedRun). q.labels) (cond b (Some (record { place = n; labels = labels })) None)) (eq-eqb n n refl)

  -- What the lines behind those of a report say: more entries, each with its line, and the text of each where
  -- the lines are kept.
  record LinesSay (report : Report) (texts : List Text) (whole : Report) : Type 0 where
    added : Journal
    entries : whole.entries ≡ report.entries ++ added
    start : whole.start ≡ report.start
    runs : (k : ℕ) → k < length report.entries → run_at whole.runs k ≡ run_at report.runs k
    lines : AreLines agent whole.runs (length report.entries) added (join_with_byte 10 texts)
    kept : (own : Agent) (before all : List Text) → all ≡ before ++ texts → length before ≡ length report.entries → TextsAreKept own whole all
        → join_with_byte 10 texts ≡ flat_map (with_line_feed own) (at_each (line_text own whole.runs) report.entries added)

  nothing-more : (report : Report) (texts : List Text) → join_with_byte 10 texts ≡ [] → LinesSay report texts report
  nothing-more report texts e = record {
    added = [];
    entries = sym (append-nil report.entries);
    start = refl;
    runs = λ k h. refl;
    lines = e;
    kept = λ own before all h k kept. e;
  }

  lines-say : (report : Report) (texts : List Text) (whole : Report) → Clear (length report.entries) report.runs → (journal_from agent report texts).outcome ≡ Ok whole → LinesSay report texts whole
  unfolding journal_from
  lines-say report [] whole clear e = let same : report ≡ whole = cc in subst (LinesSay report []) same (nothing-more report [] refl)
  lines-say report (last ∷ []) whole clear e =
      let r = row-ok (is_empty last) NO_BODY (length report.entries) (gives report) whole e in
      let same : report ≡ whole = let k = r.1 in cc in
      subst (LinesSay report (last ∷ [])) same (nothing-more report (last ∷ []) (empty last r.0))
    where
      empty : (text : Text) → is_empty text ≡ true → text ≡ []
      empty [] h = refl
      empty (b ∷ bs) h = absurd (cc)
  lines-say report (text ∷ next ∷ texts) whole clear e =
      let n = length report.entries in
      let r = then-ok (line_of agent report.entries text) (λ line. journal_from agent (with_line report line) (next ∷ texts)) whole e in
      let line = r.0 in
      let one = line-says report.entries text line r.1 in
      let count : length (report.entries ++ line.entry ∷ []) ≡ n + 1 = length-append report.entries (line.entry ∷ []) in
      let rest = lines-say (with_line report line) (next ∷ texts) whole (subst (λ m. Clear m (report.runs ++ placed_run n line.run)) (sym count) (clear-next n report.runs line.run clear)) r.2 in
      let here : run_at whole.runs n ≡ line.run =
      rest.runs n (omega (arith, count)) ∙ run_at-behind report.runs (placed_run n line.run) n (clear n (omega arith)) ∙ placed-here n line.run in
      let es : whole.entries ≡ report.entries ++ line.entry ∷ rest.added = rest.entries ∙ append_assoc report.entries (line.entry ∷ []) rest.added in
      let joined = join_with_byte 10 (next ∷ texts) in
      record {
        added = line.entry ∷ rest.added;
        entries = es;
        start = rest.start;
        runs = λ k h. rest.runs k (omega (arith, count, h)) ∙ run_at-before report.runs (placed_run n line.run) k (placed-elsewhere n line.run k (omega (arith, h)));
        lines = (
          one.old,
          joined,
          one.may,
          ap (λ t. t ++ 10 ∷ joined) (one.is ∙ ap (λ run. decimal n ++ codes " " ++ said_body agent run one.old line.entry) (sym here))
              ∙ sym (append_assoc (said_line agent whole.runs n one.old line.entry) (10 ∷ []) joined),
          subst (λ m. AreLines agent whole.runs m rest.added joined) count rest.lines,
        );
        kept = λ own before all h k kept.
            let at : slice_get all n ≡ Some text = ap (λ ts. slice_get ts n) h ∙ ap (slice_get (before ++ text ∷ next ∷ texts)) (sym k) ∙ stands-next before text (next ∷ texts) in
            let written = line_text own whole.runs report.entries line.entry in
            let told : same_line (Some text) written ≡ true = ap (λ o. same_line o written) (sym at) ∙ kept report.entries line.entry rest.added es in
            let behind = rest.kept own (before ++ text ∷ []) all (h ∙ sym (append_assoc before (text ∷ []) (next ∷ texts))) (length-append before (text ∷ []) ∙ ap (λ m. m + 1) k ∙ sym count) kept in
            (λ i. same_text text written (sym told) i ++ 10 ∷ behind i)
            ∙ sym (append_assoc written (10 ∷ []) (flat_map (with_line_feed own) (at_each (line_text own whole.runs) (report.entries ++ line.entry ∷ []) rest.added)));
      }

  module _ (bytes : Text) (report : Report) (e : (journal_of agent bytes).outcome ≡ Ok report) where
    abbrev pub its-head : IsHeaded agent bytes report report.start
    its-head = read-head agent well bytes report e

    all-lines : LinesSay (empty_report report.start) (lines_in its-head.rest) report
    all-lines = lines-say (empty_report report.start) (lines_in its-head.rest) report (λ k h. refl) its-head.says

    pub read-says : ReadsAs agent bytes report
    read-says =
        let said = all-lines in
        let rest = its-head.rest in record {
          fits = journal-fits agent well bytes report e;
          rest = rest;
          head = its-head.head;
          lines = subst (λ es. AreLines agent report.runs 0 es rest) (sym said.entries) (subst (AreLines agent report.runs 0 said.added) (join_with_byte-slice_split 10 rest) said.lines);
        }

    abbrev own-agent : Agent
    own-agent = started agent report.start

    -- the lines behind the head are the text of the entries, where each is that of its entry
    pub kept-lines : TextsAreKept own-agent report (entry_lines agent bytes report.start) → its-head.rest ≡ report_text own-agent report
    unfolding report_text
    kept-lines kept =
        let said = all-lines in
        let rest = its-head.rest in
        sym (join_with_byte-slice_split 10 rest) ∙ said.kept own-agent [] (lines_in rest) refl refl (subst (TextsAreKept own-agent report) its-head.lines kept)
        ∙ ap (λ es. flat_map (with_line_feed own-agent) (at_each (line_text own-agent report.runs) [] es)) (sym said.entries)

    pub kept-is-spelled : TextsAreKept own-agent report (entry_lines agent bytes report.start) → SpellsReport agent bytes report
    kept-is-spelled kept = record {
      fits = journal-fits agent well bytes report e;
      text = its-head.head ∙ ap (λ t. option_map_or (head_text agent) report.start [] ++ t) (kept-lines kept);
    }

    -- and the other way round
    pub spelled-rest : SpellsReport agent bytes report → its-head.rest ≡ report_text own-agent report
    spelled-rest spelled =
        append_cancel_left (option_map_or (head_text agent) report.start []) its-head.rest (report_text own-agent report) (sym its-head.head ∙ spelled.text)
