-- A report that was read has a text.
use Rattle.std.proofs.Common.{◌≡◌, ℕ, zero, suc, ◌+◌, ◌≤◌, Bool, true, false, not, ◌&&◌, Option, Some, None, Result, Ok, Err, List, [], ◌∷◌, ◌++◌, length, length-append, map, refl, ap, ◌∙◌, subst, arith, append-nil}
use Rattle.std.specs.Prelude.{IfSome, nat_le, nat_eq, slice_get, is_some}
use Rattle.std.specs.List.{list_all}
use Rattle.std.specs.Option.{option_map_or}
use Rattle.std.specs.Result.{IfOk}
use Rattle.std.proofs.lemmas.Bool.{leb-true, le-leb, eqb-true}
use Rattle.std.proofs.lemmas.List.{map_push}
use Rattle.std.proofs.lemmas.Option.{slice_get_within}
use Rattle.std.proofs.lemmas.List.Folds.{list_all-append}
use Rattle.golog_rows.specs.Reading.{gives}
use Rattle.golog_base.specs.Numbers.{amount}
use Rattle.golog_tree.specs.declared.agent.Agent.{Agent}
use Rattle.golog_tree.specs.declared.prog.Label.{Label}
use Rattle.golog_semantics.specs.declared.journal.Entry.{Entry}
use Rattle.golog_semantics.specs.declared.journal.PlacedRun.{PlacedRun}
use Rattle.golog_semantics.specs.declared.journal.Report.{Report}
use Rattle.golog_semantics.specs.InlineText.{placed_run}
use Rattle.golog_semantics.specs.Journal.{Journal}
use Rattle.golog_semantics.specs.Online.{label_of}
use Rattle.golog_semantics.specs.Reports.{IsReport, fits_entry, fits_label, fits_run, grow_from, place_limit}
use Rattle.golog_semantics.specs.InSorts.{AreInSorts}
use Rattle.golog_semantics.specs.Text.{Text, at_each}
use Rattle.golog_semantics.specs.Truth.{Values}
use Rattle.golog_semantics.specs.WellFormed.{WellFormed}
use Rattle.golog_semantics.specs.Ways.{is_empty}
use Rattle.golog_semantics.proofs.Pushed.{at_each-push}
use Rattle.golog_semantics.proofs.Words.{and-both, and-left, and-right}
use Rattle.golog_reports.specs.declared.fault.TextFault.{TextFault}
use Rattle.golog_reports.specs.declared.reading.Line.{Line}
use Rattle.golog_reports.specs.Answers.{Answers}
use Rattle.golog_reports.specs.Codes.{NO_BODY}
use Rattle.golog_reports.specs.Said.{Said}
use Rattle.golog_reports.specs.Reads.{is_in_place, is_small, has_small, line_of, with_line, empty_report, journal_from, journal_of, lines_in}
use Rattle.golog_reports.proofs.FitEntries.{RunFits, StepsOnly, ToldFits, line-fits}
use Rattle.golog_reports.proofs.ReadHeads.{read-head}
use Rattle.golog_reports.proofs.Says.{is_read, row-ok, then-ok}

-- what stands in a list stands there still with one more behind it, and the one behind it stands at its length
kept-at : {A : Type 0} (xs : List A) (y x : A) (i : ℕ) → slice_get xs i ≡ Some x → slice_get (xs ++ y ∷ []) i ≡ Some x
kept-at [] y x i e = absurd (cc)
kept-at (z ∷ xs) y x zero e = e
kept-at (z ∷ xs) y x (suc i) e = kept-at xs y x i e

last-at : {A : Type 0} (xs : List A) (y : A) → slice_get (xs ++ y ∷ []) (length xs) ≡ Some y
last-at [] y = refl
last-at (z ∷ xs) y = last-at xs y

is-there : {A : Type 0} (test : A → Bool) (o : Option A) → option_map_or test o false ≡ true → (x : A) × (o ≡ Some x) × (test x ≡ true)
is-there test None e = absurd (cc)
is-there test (Some x) e = (x, refl, e)

-- places that grow, and one more behind them
grown : (n m : ℕ) (runs : List PlacedRun) → n ≤ m → grow_from n (map (λ r. r.place) runs) ≡ true
    → list_all (λ (r : PlacedRun). nat_le (r.place + 1) m) runs ≡ true → (k : List ℕ) → k ≡ m ∷ [] → grow_from n (map (λ r. r.place) runs ++ k) ≡ true
grown n m [] most h below k e = ap (grow_from n) e ∙ and-both (nat_le n m) true (le-leb n m most) refl
grown n m (r ∷ runs) most h below k e =
    let places = map (λ (q : PlacedRun). q.place) runs in
    let first = and-left (nat_le n r.place) (grow_from (r.place + 1) places) h in
    let before : r.place + 1 ≤ m = leb-true (r.place + 1) m (and-left (nat_le (r.place + 1) m) (list_all (λ (q : PlacedRun). nat_le (q.place + 1) m) runs) below) in
    and-both (nat_le n r.place) (grow_from (r.place + 1) (places ++ k)) first
    (grown (r.place + 1) m runs before (and-right (nat_le n r.place) (grow_from (r.place + 1) places) h)
    (and-right (nat_le (r.place + 1) m) (list_all (λ (q : PlacedRun). nat_le (q.place + 1) m) runs) below) k e)

module _ (agent : Agent) where
  -- a run that stands among entries stands there still with one more
  run-kept : (entries : Journal) (e : Entry) (r : PlacedRun) → fits_run agent entries r ≡ true → fits_run agent (entries ++ e ∷ []) r ≡ true
  run-kept entries e r h =
      let form = not (is_empty r.labels) && list_all (fits_label agent) r.labels in
      let at = is-there (λ x. is_some (label_of x)) (slice_get entries r.place) (and-right form (option_map_or (λ x. is_some (label_of x)) (slice_get entries r.place) false) h) in
      and-both form (option_map_or (λ x. is_some (label_of x)) (slice_get (entries ++ e ∷ []) r.place) false) (and-left form _ h)
      (ap (λ o. option_map_or (λ x. is_some (label_of x)) o false) (kept-at entries e at.0 r.place at.1) ∙ at.2)

  runs-kept : (entries : Journal) (e : Entry) (runs : List PlacedRun) → list_all (fits_run agent entries) runs ≡ true → list_all (fits_run agent (entries ++ e ∷ [])) runs ≡ true
  runs-kept entries e [] h = refl
  runs-kept entries e (r ∷ runs) h =
      let rest = list_all (fits_run agent entries) runs in
      and-both (fits_run agent (entries ++ e ∷ []) r) (list_all (fits_run agent (entries ++ e ∷ [])) runs)
      (run-kept entries e r (and-left (fits_run agent entries r) rest h)) (runs-kept entries e runs (and-right (fits_run agent entries r) rest h))

  -- runs stand within the entries
  runs-below : (entries : Journal) (runs : List PlacedRun) → list_all (fits_run agent entries) runs ≡ true → list_all (λ (r : PlacedRun). nat_le (r.place + 1) (length entries)) runs ≡ true
  runs-below entries [] h = refl
  runs-below entries (r ∷ runs) h =
      let form = not (is_empty r.labels) && list_all (fits_label agent) r.labels in
      let rest = list_all (fits_run agent entries) runs in
      let at = is-there (λ x. is_some (label_of x)) (slice_get entries r.place) (and-right form (option_map_or (λ x. is_some (label_of x)) (slice_get entries r.place) false) (and-left (fits_run agent entries r) rest h)) in
      let inside = slice_get_within entries r.place at.0 at.1 in
      and-both (nat_le (r.place + 1) (length entries)) (list_all (λ (q : PlacedRun). nat_le (q.place + 1) (length entries)) runs)
      (le-leb (r.place + 1) (length entries) (omega (arith, inside))) (runs-below entries runs (and-right (fits_run agent entries r) rest h))

  module _ (report : Report) (fits : IsReport agent report) (line : Line) (told : ToldFits agent report.entries line.entry line.run) (few : length report.entries ≤ place_limit) where
    abbrev entries : Journal
    entries = report.entries ++ line.entry ∷ []

    abbrev here : ℕ
    here = length report.entries

    entries-fit : list_all (λ (b : Bool). b) (at_each (fits_entry agent) [] entries) ≡ true
    entries-fit =
        ap (list_all (λ (b : Bool). b)) (at_each-push (fits_entry agent) report.entries line.entry)
        ∙ list_all-append (λ (b : Bool). b) (at_each (fits_entry agent) [] report.entries) (fits_entry agent report.entries line.entry ∷ [])
        ∙ and-both (list_all (λ (b : Bool). b) (at_each (fits_entry agent) [] report.entries)) (fits_entry agent report.entries line.entry && true) fits.entries
        (and-both (fits_entry agent report.entries line.entry) true told.entry refl)

    new-run : (run : Option (List Label)) → RunFits agent run → StepsOnly agent line.entry run → list_all (fits_run agent entries) (placed_run here run) ≡ true
    new-run None r s = refl
    new-run (Some labels) r s =
        let stands = ap (λ o. option_map_or (λ x. is_some (label_of x)) o false) (last-at report.entries line.entry) ∙ s in
        and-both (fits_run agent entries (record { place = here; labels = labels })) true
        (and-both (not (is_empty labels) && list_all (fits_label agent) labels) (option_map_or (λ x. is_some (label_of x)) (slice_get entries here) false) r stands) refl

    places-grow : (run : Option (List Label)) → grow_from 0 (map (λ (r : PlacedRun). r.place) (report.runs ++ placed_run here run)) ≡ true
    places-grow None = ap (λ rs. grow_from 0 (map (λ (r : PlacedRun). r.place) rs)) (append-nil report.runs) ∙ fits.in_order
    places-grow (Some labels) =
        ap (grow_from 0) (map_push (λ (r : PlacedRun). r.place) report.runs (record { place = here; labels = labels }))
        ∙ grown 0 here report.runs (omega arith) fits.in_order (runs-below report.entries report.runs fits.runs) (here ∷ []) refl

    one_more_line : IsReport agent (with_line report line)
    one_more_line = record {
      entries = entries-fit;
      runs =
          list_all-append (fits_run agent entries) report.runs (placed_run here line.run)
          ∙ and-both (list_all (fits_run agent entries) report.runs) (list_all (fits_run agent entries) (placed_run here line.run))
          (runs-kept report.entries line.entry report.runs fits.runs) (new-run line.run told.labels told.steps);
      in_order = places-grow line.run;
      in_bounds = le-leb (length entries) (place_limit + 1) (omega (arith, few, length-append report.entries (line.entry ∷ [])));
      start = fits.start;
    }

  -- a number that is a place is small, and so are those of the body
  pub small-place : (place : ℕ) (said : Said) → is_in_place place said ≡ true → (place ≤ place_limit) × (has_small said.body ≡ true)
  unfolding is_in_place
  small-place place said h =
      let both = and-left (is_small said.number && nat_eq (amount said.number) place) (has_small said.body) h in
      let small = leb-true (amount said.number) place_limit (and-left (is_small said.number) (nat_eq (amount said.number) place) both) in
      let same = eqb-true (amount said.number) place (and-right (is_small said.number) (nat_eq (amount said.number) place) both) in
      (omega (arith, small, same), and-right (is_small said.number && nat_eq (amount said.number) place) (has_small said.body) h)

  pub line-is-report : WellFormed agent → (report : Report) (text : Text) (line : Line) → IsReport agent report → (line_of agent report.entries text).outcome ≡ Ok line → IsReport agent (with_line report line)
  line-is-report well report text line fits e =
      let r = is_read agent report.entries text line e in
      let small = small-place (length report.entries) r.said r.in_place in
      one_more_line report fits line (line-fits agent well report.entries r.said.body r.what line small.1 r.what_is r.line_is) small.0

  from-fits : WellFormed agent → (report : Report) (texts : List Text) (whole : Report) → IsReport agent report → (journal_from agent report texts).outcome ≡ Ok whole → IsReport agent whole
  unfolding journal_from
  from-fits well report [] whole fits e = let same : report ≡ whole = cc in subst (IsReport agent) same fits
  from-fits well report (last ∷ []) whole fits e =
      let r = row-ok (is_empty last) NO_BODY (length report.entries) (gives report) whole e in
      let same : report ≡ whole = let k = r.1 in cc in
      subst (IsReport agent) same fits
  from-fits well report (text ∷ next ∷ texts) whole fits e =
      let r = then-ok (line_of agent report.entries text) (λ line. journal_from agent (with_line report line) (next ∷ texts)) whole e in
      from-fits well (with_line report r.0) (next ∷ texts) whole (line-is-report well report text r.0 fits r.1) r.2

  none-read : (start : Option Values) → IfSome start (AreInSorts agent) → IsReport agent (empty_report start)
  none-read start sorts = record { entries = refl; runs = refl; in_order = refl; in_bounds = refl; start = sorts }

  pub journal-fits : WellFormed agent → (bytes : Text) (report : Report) → (journal_of agent bytes).outcome ≡ Ok report → IsReport agent report
  journal-fits well bytes report e =
      let h = read-head agent well bytes report e in
      from-fits well (empty_report report.start) (lines_in h.rest) report (none-read report.start h.sorts) h.says

  pub answer-fits : WellFormed agent → (bytes : Text) (result : Result Report TextFault) → Answers result (journal_of agent bytes) → IfOk result (IsReport agent)
  answer-fits well bytes (Ok report) e = journal-fits well bytes report e
  answer-fits well bytes (Err fault) e = tt
