-- The faults of a report from a place on, and what a replay answers by them.
use Rattle.std.proofs.Common.{◌≡◌, ℕ, zero, suc, ◌+◌, ◌<◌, ◌≤◌, Bool, true, false, List, [], ◌∷◌, ◌++◌, take, drop, length, get_or, Option, Some, None, Result, Ok, Err, refl, sym, ap, ◌∙◌, subst, arith, add-one}
use Rattle.std.specs.Prelude.{Contains, IfOk, codes, decimal, nat_le, slice_get, if◌then◌else◌}
use Rattle.std.specs.List.{list_all}
use Rattle.std.specs.Option.{option_or}
use Rattle.std.proofs.Math.Seq.{drop-cons, take-suc}
use Rattle.std.proofs.lemmas.Bool.{and_parts, leb-true}
use Rattle.std.proofs.lemmas.List.{append_assoc, append-nil, drop_all, length-take-le}
use Rattle.std.proofs.lemmas.List.Elements.{All-filter}
use Rattle.golog_tree.specs.declared.agent.Agent.{Agent}
use Rattle.golog_tree.specs.declared.prog.Label.{Label}
use Rattle.golog_semantics.specs.declared.journal.Answer.{Answer}
use Rattle.golog_semantics.specs.declared.journal.Entry.{Entry}
use Rattle.golog_semantics.specs.declared.journal.Entry.TheVariants.{End}
use Rattle.golog_semantics.specs.declared.journal.PlacedRun.{PlacedRun}
use Rattle.golog_semantics.specs.declared.journal.Report.{Report}
use Rattle.golog_semantics.specs.declared.journal.Why.{Why}
use Rattle.golog_semantics.specs.declared.journal.Why.TheVariants as why
use Rattle.golog_semantics.specs.Journal.{Journal}
use Rattle.golog_semantics.specs.Progress.{left_after, values_after}
use Rattle.golog_semantics.specs.Reports.{IsReport, entry_limit, fits_entry}
use Rattle.golog_semantics.specs.Text.{Text, at_each, body_text, run_at}
use Rattle.golog_semantics.specs.Online.{Fault, fault_among, fault_at, fault_of, first_fault, first_some, is_whole, keeps_after, keeps_answer, keeps_close, keeps_place, keeps_poster, keeps_run, keeps_step, keeps_taken, same_line, too_short}
use Rattle.golog_text.specs.Named.{AreFrom, AreLabels, AreNamed, IsNamed}
use Rattle.golog_text.proofs.RunsBehind.{from_grows, from_place, same_run}
use Rattle.golog_text.proofs.Things.{entries_named, runs_named}
use Rattle.golog_replay.specs.declared.course.Course.{Course}
use Rattle.golog_replay.specs.Courses.{Follows, TakenIs}
use Rattle.golog_semantics.specs.Verdicts.{VerdictIs, entry_lines}
use Rattle.golog_semantics.specs.declared.journal.Verdict.TheVariants.{Online, Not}

slice_get-drop : {A : Type 0} (n : ℕ) (xs : List A) → slice_get (drop n xs) 0 ≡ slice_get xs n
slice_get-drop zero xs = refl
slice_get-drop (suc n) [] = refl
slice_get-drop (suc n) (x ∷ xs) = slice_get-drop n xs

pub drop-more : {A : Type 0} (n : ℕ) (xs : List A) → drop 1 (drop n xs) ≡ drop (n + 1) xs
drop-more n xs = go n xs ∙ ap (λ k. drop k xs) (sym (add-one n))
  where
    go : {A : Type 0} (n : ℕ) (xs : List A) → drop 1 (drop n xs) ≡ drop (suc n) xs
    go zero xs = refl
    go (suc n) [] = refl
    go (suc n) (x ∷ xs) = go n xs

pub ok-always : {A E : Type 0} {X : Type 0} (r : Result A E) → X → IfOk r (λ a. X)
ok-always (Ok a) x = x
ok-always (Err e) x = tt

-- where something is said at each place, it is said of the entry there
said-at : (f : Journal → Entry → Bool) (before entries : Journal) (place : ℕ) (d : Entry) → list_all (λ b. b) (at_each f before entries) ≡ true → place < length entries
    → f (before ++ take place entries) (get_or entries place d) ≡ true
said-at f before [] place d h inside = absurd (omega (arith, inside))
said-at f before (e ∷ entries) zero d h inside =
    ap (λ b. f b e) (append-nil before) ∙ (and_parts (f before e) (list_all (λ b. b) (at_each f (before ++ e ∷ []) entries)) h).0
said-at f before (e ∷ entries) (suc place) d h inside =
    ap (λ b. f b (get_or entries place d)) (sym (append_assoc before (e ∷ []) (take place entries)))
    ∙ said-at f (before ++ e ∷ []) entries place d (and_parts (f before e) (list_all (λ b. b) (at_each f (before ++ e ∷ []) entries)) h).1 (omega (arith, inside))

pub fits-there : (agent : Agent) (report : Report) → IsReport agent report → (place : ℕ) (d : Entry) → place < length report.entries
    → fits_entry agent (take place report.entries) (get_or report.entries place d) ≡ true
fits-there agent report is place d inside = said-at (fits_entry agent) [] report.entries place d is.entries inside

-- the faults at an entry are the same with other runs, where they have the same run at its place
module _ (agent : Agent) (lines : List Text) (journal : Journal) (e : Entry) where
  abbrev n : ℕ
  n = length journal

  abbrev fault_with : Option (List Label) → Option Fault
  fault_with run =
      let V = values_after agent journal in
      let P = left_after agent journal in
      fault_among n
      ((why.After, keeps_after agent journal e)
      ∷ (why.Poster, keeps_poster agent journal e)
      ∷ (why.Place, keeps_place agent journal e)
      ∷ (why.Taken, keeps_taken agent journal e)
      ∷ (why.Step, keeps_step agent journal V P e)
      ∷ (why.Run, keeps_run agent journal run V P e)
      ∷ (why.Answer, keeps_answer agent journal V P e)
      ∷ (why.Close, keeps_close agent journal e)
      ∷ (why.Text, same_line (slice_get lines n) (decimal n ++ codes " " ++ body_text agent V run e))
      ∷ [])

  pub same-fault : (runs others : List PlacedRun) → run_at runs n ≡ run_at others n → fault_at agent (Some lines) runs journal e ≡ fault_at agent (Some lines) others journal e
  same-fault runs others h = ap fault_with h

module _ (agent : Agent) (lines : List Text) (report : Report) where
  abbrev say : Journal → Entry → Option Fault
  say = fault_at agent (Some lines) report.runs

  -- the first fault from a place on
  abbrev pub faults_from : ℕ → Option Fault
  faults_from place = first_some (at_each say (take place report.entries) (drop place report.entries))

  pub from-start : first_fault agent (Some lines) report ≡ faults_from 0
  unfolding first_fault
  from-start = refl

  pub from-end : (place : ℕ) → length report.entries ≤ place → faults_from place ≡ None
  from-end place h = ap (λ es. first_some (at_each say (take place report.entries) es)) (drop_all place report.entries h)

  module _ (place : ℕ) (d : Entry) (inside : place < length report.entries) where
    abbrev e : Entry
    e = get_or report.entries place d

    abbrev before : Journal
    before = take place report.entries

    pub then-more : take (place + 1) report.entries ≡ before ++ e ∷ []
    then-more = ap (λ n. take n report.entries) (add-one place) ∙ take-suc report.entries place d inside

    pub long : length before ≡ place
    long = length-take-le place report.entries (omega (arith, inside))

    one-on : faults_from place ≡ option_or (say before e) (faults_from (place + 1))
    one-on =
        ap (λ es. first_some (at_each say before es)) (drop-cons report.entries place d inside)
        ∙ ap (λ b. option_or (say before e) (first_some (at_each say b (drop (suc place) report.entries)))) (sym then-more)
        ∙ ap (λ n. option_or (say before e) (first_some (at_each say (take (place + 1) report.entries) (drop n report.entries)))) (sym (add-one place))

    -- with the runs from the place on
    here-so : (runs : List PlacedRun) → runs ≡ from_place place report.runs → say before e ≡ fault_at agent (Some lines) runs before e
    here-so runs h =
        same-fault agent lines before e report.runs runs
        (sym
        (ap (λ rs. run_at rs (length before)) h
        ∙ ap (λ k. run_at (from_place place report.runs) k) long ∙ same_run place report.runs ∙ ap (run_at report.runs) (sym long)))

    line-so : (here : List Text) → here ≡ drop place lines → slice_get lines (length before) ≡ slice_get here 0
    line-so here h = ap (slice_get lines) long ∙ sym (slice_get-drop place lines) ∙ ap (λ ls. slice_get ls 0) (sym h)

    pub broken-here : (runs : List PlacedRun) (here : List Text) → runs ≡ from_place place report.runs → here ≡ drop place lines → (w : Why)
        → ((ls : List Text) → slice_get ls (length before) ≡ slice_get here 0 → fault_at agent (Some ls) runs before e ≡ Some (record { place = length before; why = w }))
        → first_fault agent (Some lines) report ≡ faults_from place
        → first_fault agent (Some lines) report ≡ Some (record { place = place; why = w })
    broken-here runs here rs hs w fault so_far =
        so_far ∙ one-on
        ∙ ap (λ o. option_or o (faults_from (place + 1))) (here-so runs rs ∙ fault lines (line-so here hs) ∙ ap (λ k. Some (record { place = k; why = w })) long)

    pub kept-here : (runs : List PlacedRun) (here : List Text) → runs ≡ from_place place report.runs → here ≡ drop place lines
        → ((ls : List Text) → slice_get ls (length before) ≡ slice_get here 0 → fault_at agent (Some ls) runs before e ≡ None)
        → first_fault agent (Some lines) report ≡ faults_from place
        → first_fault agent (Some lines) report ≡ faults_from (place + 1)
    kept-here runs here rs hs none so_far =
        so_far ∙ one-on ∙ ap (λ o. option_or o (faults_from (place + 1))) (here-so runs rs ∙ none lines (line-so here hs))

    pub lines-on : (here later : List Text) → here ≡ drop place lines → later ≡ drop 1 here → later ≡ drop (place + 1) lines
    lines-on here later h k = k ∙ ap (drop 1) h ∙ drop-more place lines

-- at an entry of those that the report lends
module _ (agent : Agent) (report : Report) (is : IsReport agent report) (items : List Entry) (same : items ≡ report.entries) (place : ℕ) (low : place < length items) where
  inside : place < length report.entries
  inside = subst (λ es. place < length es) same low

  pub lent-fits : (d : Entry) → fits_entry agent (take place items) (get_or items place d) ≡ true
  lent-fits d = subst (λ es. fits_entry agent (take place es) (get_or es place d) ≡ true) (sym same) (fits-there agent report is place d inside)

  pub lent-named : (d : Entry) → IsNamed agent (get_or items place d)
  lent-named d = subst (λ es. IsNamed agent (get_or es place d)) (sym same) (entries_named agent report is place d inside)

  pub lent-short : length (take place items) < entry_limit
  lent-short =
      let most = leb-true (length report.entries) entry_limit is.in_bounds in
      let many = length-take-le place items (omega (arith, low)) in
      omega (arith, inside, most, many)

  module _ (runs : List PlacedRun) (are : runs ≡ from_place place report.runs) where
    pub lent-in-order : AreFrom (length (take place items)) runs
    lent-in-order =
        subst (λ n. AreFrom n runs) (sym (length-take-le place items (omega (arith, low))))
        (subst (AreFrom place) (sym are) (from_grows place 0 report.runs is.in_order))

    pub lent-runs-named : AreNamed agent runs
    lent-runs-named =
        subst (AreNamed agent) (sym are)
        (All-filter (λ r. nat_le place r.place) (λ r. AreLabels agent r.labels) report.runs (runs_named agent report is))

    module _ (lines here later : List Text) (to_come : here ≡ drop place lines) (course : Course) (d : Entry) (broken : Option Why)
        (taken : TakenIs agent (take place items) runs here (get_or items place d) later course broken)
        (so_far : first_fault agent (Some lines) report ≡ faults_from agent lines report place) where
      taken-there : (what : Option Why) → broken ≡ what → TakenIs agent (take place report.entries) runs here (get_or report.entries place d) later course what
      taken-there what so =
          subst (λ es. TakenIs agent (take place es) runs here (get_or es place d) later course what) same
          (subst (TakenIs agent (take place items) runs here (get_or items place d) later course) so taken)

      pub lent-broken : (w : Why) → broken ≡ Some w → first_fault agent (Some lines) report ≡ Some (record { place = place; why = w })
      lent-broken w so = broken-here agent lines report place d inside runs here are to_come w (taken-there (Some w) so) so_far

      pub record GoesOn : Type 0 where
        pub follows : Follows agent (take (place + 1) report.entries) course
        pub faults : first_fault agent (Some lines) report ≡ faults_from agent lines report (place + 1)
        pub behind : later ≡ drop (place + 1) lines

      pub lent-kept : broken ≡ None → GoesOn
      lent-kept so =
          let kept = taken-there None so in
          record {
            follows = subst (λ es. Follows agent es course) (sym (then-more agent lines report place d inside)) kept.2;
            faults = kept-here agent lines report place d inside runs here are to_come kept.0 so_far;
            behind = lines-on agent lines report place d inside here later to_come kept.1;
          }

module _ (agent : Agent) (bytes : Text) (report : Report) where
  abbrev lines : List Text
  lines = entry_lines agent bytes report.start

  pub not-online : (place : ℕ) (w : Why) → first_fault agent (Some lines) report ≡ Some (record { place = place; why = w }) → VerdictIs agent bytes report (Not place w)
  unfolding fault_of
  not-online place w h = ap (λ o. option_or o (too_short agent (Some lines) report.entries)) h

  pub online-so : (answer : Answer) → first_fault agent (Some lines) report ≡ None → is_whole agent report.entries ≡ true → Contains report.entries (End answer) → VerdictIs agent bytes report (Online answer)
  unfolding fault_of
  online-so answer h whole ends = (
    ap (λ o. option_or o (too_short agent (Some lines) report.entries)) h
        ∙ ap (λ b. if b then None else Some (record { place = length report.entries; why = why.Short })) whole,
    ends,
  )

  pub short-so : (n : ℕ) → n ≡ length report.entries → first_fault agent (Some lines) report ≡ None → is_whole agent report.entries ≡ false → VerdictIs agent bytes report (Not n why.Short)
  unfolding fault_of
  short-so n long h whole =
      ap (λ o. option_or o (too_short agent (Some lines) report.entries)) h
      ∙ ap (λ b. if b then None else Some (record { place = length report.entries; why = why.Short })) whole
      ∙ ap (λ k. Some (record { place = k; why = why.Short })) (sym long)
