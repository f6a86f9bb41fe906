-- The text of a report says it line by line.
use Rattle.std.proofs.Common.{◌≡◌, ℕ, Bool, true, false, not, ◌&&◌, ◌||◌, ◌==◌, Option, Some, None, List, [], ◌∷◌, ◌++◌, length, length-append, refl, ap, subst, arith}
use Rattle.std.specs.Prelude.{IfSome, codes, decimal, if◌then◌else◌, nat_lt, slice_index}
use Rattle.std.specs.List.{flat_map, list_all, list_any}
use Rattle.std.specs.Option.{option_map_or}
use Rattle.std.proofs.lemmas.Bool.{eqb-true, ltb-true}
use Rattle.golog_tree.specs.declared.agent.Agent.{Agent}
use Rattle.golog_tree.specs.declared.prog.Label.{Label}
use Rattle.golog_tree.specs.Ground.{ground_fluents, sort_size}
use Rattle.golog_semantics.specs.declared.journal.Entry.{Entry}
use Rattle.golog_semantics.specs.declared.journal.Entry.TheVariants.{Do, Test, Exo, Sense, Rest, Close, End}
use Rattle.golog_semantics.specs.declared.journal.PlacedRun.{PlacedRun}
use Rattle.golog_semantics.specs.declared.journal.Report.{Report}
use Rattle.golog_semantics.specs.Journal.{Journal, commands}
use Rattle.golog_semantics.specs.Online.{is_result}
use Rattle.golog_semantics.specs.Progress.{values_after}
use Rattle.golog_semantics.specs.Reports.{IsReport, fits_entry, is_device, is_value}
use Rattle.golog_semantics.specs.InSorts.{AreInSorts}
use Rattle.golog_semantics.specs.Restart.{journal_text, restarted, started}
use Rattle.golog_semantics.specs.SortLaws.{ResultsFit}
use Rattle.golog_semantics.specs.Text.{at_each, body_text, device_text, line_text, report_text, run_at, value_text, with_line_feed}
use Rattle.golog_semantics.specs.Truth.{Values, is_known, unknown}
use Rattle.golog_semantics.specs.Values.{fluent_sort}
use Rattle.golog_semantics.specs.WellFormed.{WellFormed}
use Rattle.golog_semantics.proofs.CausesKeep.{values_stay_in_sorts}
use Rattle.golog_semantics.proofs.Restarted.{restarted_fits}
use Rattle.golog_semantics.proofs.Words.{and-both, and-left, and-right}
use Rattle.golog_reports.specs.ReadsAs.{AreLines, MayStand, ReadsAs, said_body, said_line}
use Rattle.golog_text.proofs.Things.{fluent_within}

-- the value that is written behind ` against`, if any
abbrev pub old_of : Values → Entry → Option ℕ
old_of values (Sense poster place fluent value) =
    if is_known (slice_index values fluent) && not (slice_index values fluent == value) then Some (slice_index values fluent) else None
old_of values _ = None

module _ (agent : Agent) where
  against-same : (fluent old : ℕ) (b : Bool) → (if b then codes " against " ++ value_text agent fluent old else []) ≡ option_map_or (λ v. codes " against " ++ value_text agent fluent v) (if b then Some old else None) []
  against-same fluent old true = refl
  against-same fluent old false = refl

  body-same : (values : Values) (run : Option (List Label)) (e : Entry) → body_text agent values run e ≡ said_body agent run (old_of values e) e
  body-same values run (Do action) = refl
  body-same values run Test = refl
  body-same values run (Exo poster action) = refl
  body-same values run (Sense poster place fluent value) =
      ap (λ t. codes "sense " ++ device_text agent poster ++ codes " " ++ decimal place ++ codes " " ++ value_text agent fluent value ++ t)
      (against-same fluent (slice_index values fluent) (is_known (slice_index values fluent) && not (slice_index values fluent == value)))
  body-same values run (Rest poster taken) = refl
  body-same values run (Close poster reason taken) = refl
  body-same values run (End answer) = refl

  pub line-same : (runs : List PlacedRun) (before : Journal) (e : Entry) → line_text agent runs before e ≡ said_line agent runs (length before) (old_of (values_after agent before) e) e
  line-same runs before e = ap (λ b. decimal (length before) ++ codes " " ++ b) (body-same (values_after agent before) (run_at runs (length before)) e)

  -- a known value of a sort is one of its constants
  known-below : (sort v : ℕ) → is_known v ≡ true → (nat_lt v (sort_size agent sort) || v == unknown) ≡ true → nat_lt v (sort_size agent sort) ≡ true
  known-below sort v known of = go (nat_lt v (sort_size agent sort)) (v == unknown) refl of
    where
      go : (b c : Bool) → (v == unknown) ≡ c → (b || c) ≡ true → b ≡ true
      go true c e k = refl
      go false false e k = k
      go false true e k = absurd (omega (arith, eqb-true v unknown e, ltb-true v unknown known))

  pub may-stand : (before : Journal) (values : Values) (e : Entry) → AreInSorts agent values → fits_entry agent before e ≡ true → MayStand agent e (old_of values e)
  may-stand before values (Do action) sorts h = tt
  may-stand before values Test sorts h = tt
  may-stand before values (Exo poster action) sorts h = tt
  may-stand before values (Sense poster place fluent value) sorts h =
      let old = slice_index values fluent in
      let result = list_any (is_result agent before place fluent) (commands agent poster before) in
      let is = and-right (is_device agent poster) (is_value agent fluent value) (and-left (is_device agent poster && is_value agent fluent value) result h) in
      let inside = fluent_within agent fluent value is in
      let first = and-left (nat_lt fluent (length (ground_fluents agent))) (nat_lt value (sort_size agent (fluent_sort agent fluent))) is in
      go (is_known old && not (old == value)) refl first (sorts.sorted fluent (omega (arith, inside, sorts.whole)))
    where
      go : (b : Bool) → (is_known (slice_index values fluent) && not (slice_index values fluent == value)) ≡ b → nat_lt fluent (length (ground_fluents agent)) ≡ true
          → (nat_lt (slice_index values fluent) (sort_size agent (fluent_sort agent fluent)) || slice_index values fluent == unknown) ≡ true
          → MayStand agent (Sense poster place fluent value) (if b then Some (slice_index values fluent) else None)
      go false e first of = tt
      go true e first of =
          let old = slice_index values fluent in
          and-both (nat_lt fluent (length (ground_fluents agent))) (nat_lt old (sort_size agent (fluent_sort agent fluent))) first
          (known-below (fluent_sort agent fluent) old (and-left (is_known old) (not (old == value)) e) of)
  may-stand before values (Rest poster taken) sorts h = tt
  may-stand before values (Close poster reason taken) sorts h = tt
  may-stand before values (End answer) sorts h = tt

  -- one more result that fits
  pub one-result : (before : Journal) (e : Entry) → fits_entry agent before e ≡ true → ResultsFit agent (e ∷ [])
  one-result before (Do action) h = tt
  one-result before Test h = tt
  one-result before (Exo poster action) h = tt
  one-result before (Sense poster place fluent value) h =
      let result = list_any (is_result agent before place fluent) (commands agent poster before) in
      (and-right (is_device agent poster) (is_value agent fluent value) (and-left (is_device agent poster && is_value agent fluent value) result h), tt)
  one-result before (Rest poster taken) h = tt
  one-result before (Close poster reason taken) h = tt
  one-result before (End answer) h = tt

  pub results-next : (journal : Journal) (e : Entry) → ResultsFit agent journal → ResultsFit agent (e ∷ []) → ResultsFit agent (journal ++ e ∷ [])
  results-next [] e r one = one
  results-next (Do action ∷ journal) e r one = results-next journal e r one
  results-next (Test ∷ journal) e r one = results-next journal e r one
  results-next (Exo poster action ∷ journal) e r one = results-next journal e r one
  results-next (Sense poster place fluent value ∷ journal) e r one = (r.0, results-next journal e r.1 one)
  results-next (Rest poster taken ∷ journal) e r one = results-next journal e r one
  results-next (Close poster reason taken ∷ journal) e r one = results-next journal e r one
  results-next (End answer ∷ journal) e r one = results-next journal e r one

  lines-from : WellFormed agent → (runs : List PlacedRun) (before entries : Journal) → ResultsFit agent before → list_all (λ fits. fits) (at_each (fits_entry agent) before entries) ≡ true
      → AreLines agent runs (length before) entries (flat_map (with_line_feed agent) (at_each (line_text agent runs) before entries))
  lines-from well runs before [] results fit = refl
  lines-from well runs before (e ∷ entries) results fit =
      let later = list_all (λ (b : Bool). b) (at_each (fits_entry agent) (before ++ e ∷ []) entries) in
      let one = and-left (fits_entry agent before e) later fit in
      let rest = flat_map (with_line_feed agent) (at_each (line_text agent runs) (before ++ e ∷ []) entries) in
      let sorts = values_stay_in_sorts agent well before results in (
        old_of (values_after agent before) e,
        rest,
        may-stand before (values_after agent before) e sorts one,
        ap (λ line. with_line_feed agent line ++ rest) (line-same runs before e),
        subst (λ n. AreLines agent runs n entries rest) (length-append before (e ∷ []))
            (lines-from well runs (before ++ e ∷ []) entries (results-next before e results (one-result before e one)) (and-right (fits_entry agent before e) later fit)),
      )

module _ (agent : Agent) (well : WellFormed agent) (report : Report) (fits : IsReport agent report) where
  lines-of : (start : Option Values) → IfSome start (AreInSorts agent) → AreLines agent report.runs 0 report.entries (report_text (started agent start) report)
  unfolding report_text
  lines-of None sorts = lines-from agent well report.runs [] report.entries tt fits.entries
  lines-of (Some values) sorts = lines-from (restarted agent values) (restarted_fits agent values well sorts) report.runs [] report.entries tt fits.entries

  pub written-says : ReadsAs agent (journal_text agent report) report
  written-says = record { fits = fits; rest = report_text (started agent report.start) report; head = refl; lines = lines-of report.start fits.start }
