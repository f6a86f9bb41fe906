-- Bytes that say a report line by line are read as the report.
use Rattle.std.proofs.Common.{◌≡◌, ℕ, ◌+◌, ◌≤◌, ◌≢◌, Bool, true, false, not, cond, ◌&&◌, ◌==◌, Option, Some, None, Ok, List, [], ◌∷◌, ◌++◌, length, length-append, map, refl, sym, ap, ◌∙◌, subst, arith, append-nil}
use Rattle.std.specs.Prelude.{IfSome, find, is_some, nat_le, option_map, slice_get}
use Rattle.std.specs.List.{list_all}
use Rattle.std.specs.Option.{option_map_or}
use Rattle.std.proofs.lemmas.Bool.{eq-eqb, eqb-true, leb-true, le-leb, ne_eqb}
use Rattle.std.proofs.lemmas.List.{append_assoc}
use Rattle.std.proofs.lemmas.List.Folds.{list_all-append}
use Rattle.std.proofs.lemmas.List.Splits.{length-slice_split}
use Rattle.std.proofs.lemmas.Option.{same_Some, slice_get_within}
use Rattle.golog_rows.specs.Reading.{Reading, outcome_behind}
use Rattle.golog_tree.specs.declared.agent.Agent.{Agent}
use Rattle.golog_tree.specs.declared.prog.Label.{Label}
use Rattle.golog_semantics.specs.declared.journal.Entry.{Entry}
use Rattle.golog_semantics.specs.declared.journal.PlacedRun.{PlacedRun}
use Rattle.golog_semantics.specs.declared.journal.Report.{Report}
use Rattle.golog_tree.specs.Ground.{ground_fluents}
use Rattle.golog_semantics.specs.InSorts.{AreInSorts}
use Rattle.golog_semantics.specs.InlineText.{placed_run}
use Rattle.golog_semantics.specs.Journal.{Journal}
use Rattle.golog_semantics.specs.Online.{label_of}
use Rattle.golog_semantics.specs.ReportLaws.{TellsApart}
use Rattle.golog_semantics.specs.Reports.{IsReport, fits_entry, fits_label, fits_run, grow_from, place_limit}
use Rattle.golog_semantics.specs.Text.{Text, at_each, head_text, run_at}
use Rattle.golog_semantics.specs.Truth.{Values}
use Rattle.golog_semantics.specs.Verdicts.{head_length}
use Rattle.golog_semantics.specs.WellFormed.{WellFormed}
use Rattle.golog_semantics.specs.Ways.{is_empty}
use Rattle.golog_semantics.proofs.StartValues.{head_is, lines_of_values, of-sorts}
use Rattle.golog_semantics.proofs.Words.{and-both, and-left, and-right}
use Rattle.golog_reports.specs.declared.reading.Line.{Line}
use Rattle.golog_reports.specs.Forms.{parts}
use Rattle.golog_text.specs.Named.{AreFrom}
use Rattle.golog_reports.specs.Moved.{moved_outcome}
use Rattle.golog_reports.specs.Reads.{begin_line, empty_report, entries_read, head_from, headed_report, journal_from, journal_of, line_of, lines_in, plain_report, version_line, with_line}
use Rattle.golog_reports.specs.ReadsAs.{AreLines, MayStand, ReadsAs, said_line}
use Rattle.golog_reports.specs.Said.{behind as behind_prefix}
use Rattle.golog_reports.proofs.FitEntries.{RunFits, StepsOnly}
use Rattle.golog_reports.proofs.HeadBack.{behind-back, head-back, no-version}
use Rattle.golog_reports.proofs.JournalSteps.{line_goes_on}
use Rattle.golog_reports.proofs.LineFeeds.{said-lacks}
use Rattle.golog_reports.proofs.LinesBack.{IsReadBack, line-back}
use Rattle.golog_reports.proofs.Marks.{Lacks, parts-first}
use Rattle.golog_text.proofs.RunsBehind.{none_here}

-- what stands at the end of a list stands there with more behind it
pub stands-next : {A : Type 0} (xs : List A) (x : A) (ys : List A) → slice_get (xs ++ x ∷ ys) (length xs) ≡ Some x
stands-next [] x ys = refl
stands-next (z ∷ xs) x ys = stands-next xs x ys

-- a run that is found is one of the runs, at the place
run-among : (runs : List PlacedRun) (place : ℕ) (labels : List Label) → run_at runs place ≡ Some labels → (test : PlacedRun → Bool) → list_all test runs ≡ true
    → (r : PlacedRun) × (r.place ≡ place) × (r.labels ≡ labels) × (test r ≡ true)
run-among [] place labels e test h = absurd (cc)
run-among (r ∷ runs) place labels e test h = go (r.place == place) refl e (λ later. run-among runs place labels later test (and-right (test r) (list_all test runs) h))
  where
    go : (b : Bool) → (r.place == place) ≡ b → option_map (λ (q : PlacedRun). q.labels) (cond b (Some r) (find (λ q. q.place == place) runs)) ≡ Some labels
        → (run_at runs place ≡ Some labels → (r : PlacedRun) × (r.place ≡ place) × (r.labels ≡ labels) × (test r ≡ true))
        → (r : PlacedRun) × (r.place ≡ place) × (r.labels ≡ labels) × (test r ≡ true)
    go true same e later = (r, eqb-true r.place place same, same_Some r.labels labels e, and-left (test r) (list_all test runs) h)
    go false same e later = later e

module _ (agent : Agent) where
  -- the run at a place is of the program's labels, and a step stands there
  record RunStands (e : Entry) (run : Option (List Label)) : Type 0 where
    fits : RunFits agent run
    steps : StepsOnly agent e run

  run-stands : (entries : Journal) (runs : List PlacedRun) (place : ℕ) (e : Entry) → list_all (fits_run agent entries) runs ≡ true → slice_get entries place ≡ Some e
      → (run : Option (List Label)) → run_at runs place ≡ run → RunStands e run
  run-stands entries runs place e h there None is = record { fits = tt; steps = tt }
  run-stands entries runs place e h there (Some labels) is =
      let r = run-among runs place labels is (fits_run agent entries) h in
      let form = not (is_empty r.0.labels) && list_all (fits_label agent) r.0.labels in
      let fits = and-left form (option_map_or (λ x. is_some (label_of x)) (slice_get entries r.0.place) false) r.3 in
      let step = and-right form (option_map_or (λ x. is_some (label_of x)) (slice_get entries r.0.place) false) r.3 in
      record {
        fits = subst (λ ls. (not (is_empty ls) && list_all (fits_label agent) ls) ≡ true) r.2 fits;
        steps = sym (ap (λ o. option_map_or (λ x. is_some (label_of x)) o false) (ap (slice_get entries) r.1 ∙ there)) ∙ step;
      }

  -- a line that is read goes on with the others
  one-line : (report : Report) (text rest : Text) (line : Line) → (line_of agent report.entries text).outcome ≡ Ok line
      → (journal_from agent report (text ∷ parts 10 rest)).outcome ≡ (journal_from agent (with_line report line) (parts 10 rest)).outcome
  one-line report text rest line e = go (parts 10 rest) refl
    where
      go : (ts : List Text) → parts 10 rest ≡ ts → (journal_from agent report (text ∷ parts 10 rest)).outcome ≡ (journal_from agent (with_line report line) (parts 10 rest)).outcome
      go [] h = let some = length-slice_split (λ byte. byte == 10) rest in absurd (omega (arith, some, ap length h))
      go (next ∷ others) h =
          sym (line_goes_on agent report text rest (journal_from agent report (text ∷ parts 10 rest)).outcome refl next others h line e)
          ∙ ap (λ ts. (journal_from agent (with_line report line) ts).outcome) (sym h)

  -- The runs at a place and behind it: that of the place, if there is one, and those behind it.
  record RunsGoOn (place : ℕ) (runs : List PlacedRun) (run : Option (List Label)) : Type 0 where
    behind : List PlacedRun
    are : runs ≡ placed_run place run ++ behind
    grow : AreFrom (place + 1) behind

  first-apart : (place : ℕ) (r : PlacedRun) (runs : List PlacedRun) → AreFrom place (r ∷ runs) → r.place ≢ place → AreFrom (place + 1) (r ∷ runs)
  first-apart place r runs h apart =
      let rest = grow_from (r.place + 1) (map (λ r. r.place) runs) in
      let low = leb-true place r.place (and-left (nat_le place r.place) rest h) in
      and-both (nat_le (place + 1) r.place) rest (le-leb (place + 1) r.place (omega (arith, low, apart))) (and-right (nat_le place r.place) rest h)

  go-on : (place : ℕ) (runs : List PlacedRun) → AreFrom place runs → RunsGoOn place runs (run_at runs place)
  go-on place [] h = record { behind = []; are = refl; grow = refl }
  go-on place (r ∷ runs) h = go (r.place == place) refl
    where
      go : (b : Bool) → (r.place == place) ≡ b → RunsGoOn place (r ∷ runs) (run_at (r ∷ runs) place)
      go true e =
          let same = eqb-true r.place place e in
          subst (RunsGoOn place (r ∷ runs)) (sym (ap (λ b. option_map (λ (q : PlacedRun). q.labels) (cond b (Some r) (find (λ q. q.place == place) runs))) e))
          (record {
            behind = runs;
            are = (λ i. record { place = same i; labels = r.labels } ∷ runs);
            grow = subst (λ n. AreFrom (n + 1) runs) same (and-right (nat_le place r.place) (grow_from (r.place + 1) (map (λ r. r.place) runs)) h);
          })
      go false e =
          let apart : r.place ≢ place = λ same. (let wrong : true ≡ false = sym (eq-eqb r.place place same) ∙ e in absurd (cc)) in
          subst (RunsGoOn place (r ∷ runs)) (sym (none_here place r (r ∷ runs) refl h apart))
          (record { behind = r ∷ runs; are = refl; grow = first-apart place r runs h apart })

-- no run stands at a place, or behind it
abbrev pub Clear : ℕ → List PlacedRun → Type 0
Clear n runs = (k : ℕ) → n ≤ k → run_at runs k ≡ None

pub run_at-behind : (runs others : List PlacedRun) (k : ℕ) → run_at runs k ≡ None → run_at (runs ++ others) k ≡ run_at others k
run_at-behind [] others k h = refl
run_at-behind (r ∷ runs) others k h = go (r.place == k) h (run_at-behind runs others k)
  where
    go : (b : Bool) → option_map (λ (q : PlacedRun). q.labels) (cond b (Some r) (find (λ q. q.place == k) runs)) ≡ None
        → (run_at runs k ≡ None → run_at (runs ++ others) k ≡ run_at others k)
        → option_map (λ (q : PlacedRun). q.labels) (cond b (Some r) (find (λ q. q.place == k) (runs ++ others))) ≡ run_at others k
    go true h later = absurd (cc)
    go false h later = later h

pub placed-elsewhere : (n : ℕ) (run : Option (List Label)) (k : ℕ) → n ≢ k → run_at (placed_run n run) k ≡ None
placed-elsewhere n None k h = refl
placed-elsewhere n (Some labels) k h =
    ap (λ b. option_map (λ (q : PlacedRun). q.labels) (cond b (Some (record { place = n; labels = labels })) None)) (ne_eqb n k h)

pub clear-next : (n : ℕ) (runs : List PlacedRun) (run : Option (List Label)) → Clear n runs → Clear (n + 1) (runs ++ placed_run n run)
clear-next n runs run clear k h = run_at-behind runs (placed_run n run) k (clear k (omega (arith, h))) ∙ placed-elsewhere n run k (omega (arith, h))

module _ (agent : Agent) (well : WellFormed agent) (apart : TellsApart agent) (report : Report) (fits : IsReport agent report) where
  -- behind the last entry no run stands
  none-behind : (n : ℕ) (runs : List PlacedRun) → length report.entries ≤ n → AreFrom n runs → list_all (fits_run agent report.entries) runs ≡ true → [] ≡ runs
  none-behind n [] past from h = refl
  none-behind n (r ∷ runs) past from h =
      let low = leb-true n r.place (and-left (nat_le n r.place) (grow_from (r.place + 1) (map (λ r. r.place) runs)) from) in
      let form = not (is_empty r.labels) && list_all (fits_label agent) r.labels in
      let one = and-left (fits_run agent report.entries r) (list_all (fits_run agent report.entries) runs) h in
      absurd (go (slice_get report.entries r.place) refl low (and-right form (option_map_or (λ x. is_some (label_of x)) (slice_get report.entries r.place) false) one))
    where
      go : (o : Option Entry) → slice_get report.entries r.place ≡ o → n ≤ r.place → option_map_or (λ x. is_some (label_of x)) o false ≡ true → ⊥
      go None e low k = cc
      go (Some x) e low k = let inside = slice_get_within report.entries r.place x e in omega (arith, inside, low, past)

  runs-fit : (runs others : List PlacedRun) → report.runs ≡ runs ++ others → list_all (fits_run agent report.entries) others ≡ true
  runs-fit runs others e =
      and-right (list_all (fits_run agent report.entries) runs) (list_all (fits_run agent report.entries) others)
      (sym (list_all-append (fits_run agent report.entries) runs others) ∙ ap (list_all (fits_run agent report.entries)) (sym e) ∙ fits.runs)

  module _ (before : Journal) (e : Entry) (entries : Journal) (es : report.entries ≡ before ++ e ∷ entries) where
    there : slice_get report.entries (length before) ≡ Some e
    there = ap (λ xs. slice_get xs (length before)) es ∙ stands-next before e entries

    pub few-before : length before ≤ place_limit
    few-before =
        let bound = leb-true (length report.entries) (place_limit + 1) fits.in_bounds in
        let long = slice_get_within report.entries (length before) e there in
        omega (arith, bound, long)

    -- the line of the entry
    pub line-is-back : (old : Option ℕ) → fits_entry agent before e ≡ true → MayStand agent e old → IsReadBack agent well apart before few-before e (run_at report.runs (length before)) old
    line-is-back old fit may =
        let run = run_at report.runs (length before) in
        let stands = run-stands agent report.entries report.runs (length before) e fits.runs there run refl in
        line-back agent well apart before few-before e run old fit stands.fits stands.steps may

    pub line-lacks : (old : Option ℕ) → fits_entry agent before e ≡ true → MayStand agent e old → Lacks 10 (said_line agent report.runs (length before) old e)
    line-lacks old fit may = let back = line-is-back old fit may in subst (Lacks 10) back.text (said-lacks back.said back.forms)

  lines-read : (before entries : Journal) (runs behind : List PlacedRun) (bytes : Text)
      → report.entries ≡ before ++ entries → report.runs ≡ runs ++ behind → Clear (length before) runs → AreFrom (length before) behind
      → list_all (λ fits. fits) (at_each (fits_entry agent) before entries) ≡ true
      → AreLines agent report.runs (length before) entries bytes
      → (journal_from agent (record { entries = before; runs = runs; start = report.start }) (parts 10 bytes)).outcome ≡ Ok report
  unfolding journal_from
  lines-read before [] runs behind bytes es rs clear from fit lines =
      let all : before ≡ report.entries = sym (es ∙ append-nil before) in
      let none = none-behind (length before) behind (omega (arith, ap length all)) from (runs-fit runs behind rs) in
      let whole : runs ≡ report.runs = sym (rs ∙ ap (λ rs. runs ++ rs) (sym none) ∙ append-nil runs) in
      ap (λ bs. (journal_from agent (record { entries = before; runs = runs; start = report.start }) (parts 10 bs)).outcome) lines
      ∙ (λ i. Ok (record { entries = all i; runs = whole i; start = report.start }))
  lines-read before (e ∷ entries) runs behind bytes es rs clear from fit lines =
      let n = length before in
      let run = run_at report.runs n in
      let old = lines.0 in
      let rest = lines.1 in
      let later = list_all (λ (b : Bool). b) (at_each (fits_entry agent) (before ++ e ∷ []) entries) in
      let fit-one = and-left (fits_entry agent before e) later fit in
      let back = line-is-back before e entries es old fit-one lines.2 in
      let text = said_line agent report.runs n old e in
      let feed = line-lacks before e entries es old fit-one lines.2 in
      let cut : parts 10 bytes ≡ text ∷ parts 10 rest = ap (parts 10) (lines.3 ∙ append_assoc text (10 ∷ []) rest) ∙ parts-first 10 text rest feed in
      let same : run ≡ run_at behind n = ap (λ rs. run_at rs n) rs ∙ run_at-behind runs behind n (clear n (omega arith)) in
      let on : RunsGoOn agent n behind run = subst (RunsGoOn agent n behind) (sym same) (go-on agent n behind from) in
      let count : length (before ++ e ∷ []) ≡ n + 1 = length-append before (e ∷ []) in
      let next = lines-read (before ++ e ∷ []) entries (runs ++ placed_run n run) on.behind rest
      (es ∙ sym (append_assoc before (e ∷ []) entries))
      (rs ∙ ap (λ xs. runs ++ xs) on.are ∙ sym (append_assoc runs (placed_run n run) on.behind))
      (subst (λ m. Clear m (runs ++ placed_run n run)) (sym count) (clear-next n runs run clear))
      (subst (λ m. AreFrom m on.behind) (sym count) on.grow)
      (and-right (fits_entry agent before e) later fit)
      (subst (λ m. AreLines agent report.runs m entries rest) (sym count) lines.4) in
      ap (λ ts. (journal_from agent (record { entries = before; runs = runs; start = report.start }) ts).outcome) cut
      ∙ one-line agent (record { entries = before; runs = runs; start = report.start }) text rest (record { entry = e; run = run }) back.outcome ∙ next

  module _ (rest : Text) (lines : AreLines agent report.runs 0 report.entries rest) where
    behind-head : (start : Option Values) → report.start ≡ start → (journal_from agent (empty_report start) (lines_in rest)).outcome ≡ Ok report
    behind-head start is =
        ap (λ s. (journal_from agent (empty_report s) (lines_in rest)).outcome) (sym is)
        ∙ lines-read [] report.entries [] report.runs rest refl refl (λ k h. refl) fits.in_order fits.entries lines

    by-start : (start : Option Values) → report.start ≡ start → IfSome start (AreInSorts agent) → (bytes : Text) → bytes ≡ option_map_or (head_text agent) start [] ++ rest
        → (journal_of agent bytes).outcome ≡ Ok report
    unfolding journal_of headed_report entries_read
    by-start None is sorts bytes e =
        ap (λ b. (journal_of agent b).outcome) e
        ∙ ap (λ o. (option_map_or (headed_report agent) o (plain_report agent rest)).outcome) (no-version agent report.runs report.entries rest lines)
        ∙ behind-head None is
    by-start (Some values) is sorts bytes e =
        let many = length (ground_fluents agent) in
        let next : Values × Text → Reading Report = λ head. entries_read agent head.0 head.1 in
        let text = lines_of_values agent 0 values ++ (begin_line ++ rest) in
        let back = head-back agent well apart values [] rest (let k = sorts.whole in omega (arith, k)) (of-sorts agent values sorts) in
        ap (λ b. (option_map_or (headed_report agent) (behind_prefix version_line b) (plain_report agent b)).outcome) (e ∙ sym (head_is agent values rest))
        ∙ ap (λ o. (option_map_or (headed_report agent) o (plain_report agent (version_line ++ text))).outcome) (behind-back version_line text)
        ∙ ap (λ n. outcome_behind (head_from agent n [] text).outcome next) (sym sorts.whole)
        ∙ ap (λ o. outcome_behind o next) back
        ∙ ap (moved_outcome (head_length agent)) (behind-head (Some values) is)

  pub said-is-read : (bytes : Text) → ReadsAs agent bytes report → (journal_of agent bytes).outcome ≡ Ok report
  said-is-read bytes said = by-start said.rest said.lines report.start refl fits.start bytes said.head
