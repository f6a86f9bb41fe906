-- The text of a journal as it grows: the lines stay, and one comes behind them.
use Rattle.std.proofs.Common.{◌≡◌, ℕ, ◌+◌, ◌<◌, List, [], ◌∷◌, ◌++◌, length, length-append, Option, Some, None, refl, sym, ap, ◌∙◌, append_assoc, arith}
use Rattle.std.specs.Prelude.{◌==◌, codes, decimal, find, option_map}
use Rattle.std.specs.List.{flat_map}
use Rattle.std.specs.Option.{option_or}
use Rattle.std.proofs.lemmas.Bool.{ne_eqb}
use Rattle.std.proofs.lemmas.Grind.{flat_map-append}
use Rattle.std.proofs.lemmas.List.{append-nil}
use Rattle.std.proofs.lemmas.List.Folds.{find-append}
use Rattle.golog_tree.specs.declared.agent.Agent.{Agent}
use Rattle.golog_tree.specs.declared.prog.Label.{Label}
use Rattle.golog_semantics.specs.declared.journal.Entry.{Entry}
use Rattle.golog_semantics.specs.declared.journal.PlacedRun.{PlacedRun}
use Rattle.golog_semantics.specs.Journal.{Journal}
use Rattle.golog_semantics.specs.Progress.{values_after}
use Rattle.golog_semantics.specs.InlineText.{begun_runs, placed_run, report_of, run_after}
use Rattle.golog_semantics.specs.OneMore.{with_runs}
use Rattle.golog_semantics.specs.Text.{Text, at_each, body_text, line_text, report_text, run_at, with_line_feed}
use Rattle.golog_semantics.proofs.LaterRuns.{at_each-same}
use Rattle.golog_semantics.proofs.Pushed.{or-none}
use Rattle.golog_lead.specs.Keeping.{begun_by}
use Rattle.golog_lead.specs.Written.{whole_text}

pub at_each-append : {A : Type 0} (say : Journal → Entry → A) (before xs ys : Journal)
    → at_each say before (xs ++ ys) ≡ at_each say before xs ++ at_each say (before ++ xs) ys
at_each-append say before [] ys = ap (λ j. at_each say j ys) (sym (append-nil before))
at_each-append say before (x ∷ xs) ys =
    ap (λ l. say before x ∷ l)
    (at_each-append say (before ++ x ∷ []) xs ys ∙ ap (λ j. at_each say (before ++ x ∷ []) xs ++ at_each say j ys) (append_assoc before (x ∷ []) xs))

none-there : (place k : ℕ) (o : Option (List Label)) → k < place → find (λ (r : PlacedRun). r.place == k) (placed_run place o) ≡ None
none-there place k None h = refl
none-there place k (Some labels) h = rw (ne_eqb place k (λ e. omega (arith, e, h))) refl

module _ (agent : Agent) where
  -- the runs that begin with these entries, behind those before
  abbrev pub runs_from : Journal → Journal → List PlacedRun
  runs_from before journal = flat_map (λ runs. runs) (at_each (run_after agent) before journal)

  pub runs-split : (xs ys : Journal) → begun_runs agent (xs ++ ys) ≡ begun_runs agent xs ++ runs_from xs ys
  runs-split xs ys =
      ap (flat_map (λ runs. runs)) (at_each-append (run_after agent) [] xs ys)
      ∙ flat_map-append (λ runs. runs) (at_each (run_after agent) [] xs) (at_each (run_after agent) xs ys)

  none-later : (before ys : Journal) (k : ℕ) → k < length before → find (λ (r : PlacedRun). r.place == k) (runs_from before ys) ≡ None
  none-later before [] k h = refl
  none-later before (e ∷ ys) k h =
      find-append (λ (r : PlacedRun). r.place == k) (run_after agent before e) (runs_from (before ++ e ∷ []) ys)
      ∙ ap (λ o. option_or o (find (λ (r : PlacedRun). r.place == k) (runs_from (before ++ e ∷ []) ys)))
      (none-there (length before) k (begun_by agent before e) h)
      ∙ none-later (before ++ e ∷ []) ys k (let l = length-append before (e ∷ []) in omega (arith, h, l))

  -- later entries begin no earlier run
  pub run-same : (xs ys : Journal) (k : ℕ) → k < length xs → run_at (begun_runs agent (xs ++ ys)) k ≡ run_at (begun_runs agent xs) k
  run-same xs ys k h =
      ap (λ runs. run_at runs k) (runs-split xs ys)
      ∙ ap (option_map (λ (r : PlacedRun). r.labels))
      (find-append (λ (r : PlacedRun). r.place == k) (begun_runs agent xs) (runs_from xs ys)
      ∙ ap (option_or (find (λ (r : PlacedRun). r.place == k) (begun_runs agent xs))) (none-later xs ys k h)
      ∙ or-none (find (λ (r : PlacedRun). r.place == k) (begun_runs agent xs)))

  -- a line depends on the runs before it alone
  pub line-same : (xs ys before : Journal) (e : Entry) → length before < length xs
      → line_text agent (begun_runs agent (xs ++ ys)) before e ≡ line_text agent (begun_runs agent xs) before e
  line-same xs ys before e h =
      ap (λ run. decimal (length before) ++ codes " " ++ body_text agent (values_after agent before) run e) (run-same xs ys (length before) h)

  -- the lines stay as more entries come
  pub text-stays : (xs ys : Journal) → report_text agent (with_runs (begun_runs agent (xs ++ ys)) xs) ≡ report_text agent (report_of agent xs)
  unfolding report_text
  text-stays xs ys =
      ap (flat_map (with_line_feed agent))
      (at_each-same (line_text agent (begun_runs agent (xs ++ ys))) (line_text agent (begun_runs agent xs)) (length xs) (line-same xs ys) [] xs (omega arith))

  module _ (runs : List PlacedRun) where
    -- the lines of more entries
    abbrev more_text : Journal → Journal → Text
    more_text xs ys = flat_map (with_line_feed agent) (at_each (line_text agent runs) xs ys)

    text-splits : (xs ys : Journal) → report_text agent (with_runs runs (xs ++ ys)) ≡ report_text agent (with_runs runs xs) ++ more_text xs ys
    unfolding report_text
    text-splits xs ys =
        ap (flat_map (with_line_feed agent)) (at_each-append (line_text agent runs) [] xs ys)
        ∙ flat_map-append (with_line_feed agent) (at_each (line_text agent runs) [] xs) (at_each (line_text agent runs) xs ys)

    -- the line of one entry more
    pub text-next : (xs : Journal) (e : Entry)
        → report_text agent (with_runs runs (xs ++ e ∷ [])) ≡ report_text agent (with_runs runs xs) ++ with_line_feed agent (line_text agent runs xs e)
    text-next xs e =
        text-splits xs (e ∷ []) ∙ ap (λ t. report_text agent (with_runs runs xs) ++ t) (append-nil (with_line_feed agent (line_text agent runs xs e)))

  -- ---- the whole text

  -- the line of one more entry, with the run that it begins, stands behind the text
  pub whole-next : (j : Journal) (e : Entry)
      → whole_text agent (j ++ e ∷ []) ≡ whole_text agent j ++ with_line_feed agent (line_text agent (begun_runs agent (j ++ e ∷ [])) j e)
  whole-next j e =
      let runs = begun_runs agent (j ++ e ∷ []) in
      text-next runs j e ∙ ap (λ t. t ++ with_line_feed agent (line_text agent runs j e)) (text-stays j (e ∷ []))

  -- before any entry there is none
  pub whole-none : (j : Journal) → j ≡ [] → whole_text agent j ≡ []
  unfolding report_text
  whole-none j none = ap (whole_text agent) none
