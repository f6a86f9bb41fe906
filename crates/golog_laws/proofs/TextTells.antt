-- Reports with the same text are the same.
use Rattle.std.proofs.Common.{◌≡◌, ℕ, zero, suc, ◌+◌, ◌≤◌, true, Option, Some, None, List, [], ◌∷◌, ◌++◌, length, refl, sym, ap, ◌∙◌, subst, arith, zero-add, add-zero}
use Rattle.std.specs.Prelude.{⊤, IfSome, is_some, codes, decimal}
use Rattle.std.specs.List.{list_all, flat_map}
use Rattle.std.specs.Option.{option_map_or}
use Rattle.std.proofs.lemmas.Fmt.{decimal_digit}
use Rattle.std.proofs.lemmas.Bool.{leb-true}
use Rattle.std.proofs.lemmas.List.{append_assoc, append_cancel_left, length-append}
use Rattle.golog_tree.specs.declared.agent.Agent.{Agent}
use Rattle.golog_semantics.specs.declared.journal.Entry.{Entry}
use Rattle.golog_semantics.specs.declared.journal.Entry.TheVariants.{Do, Test, Exo, Sense, Rest, Close, End}
use Rattle.golog_semantics.specs.declared.journal.PlacedRun.{PlacedRun}
use Rattle.golog_semantics.specs.declared.journal.Report.{Report}
use Rattle.golog_semantics.specs.InSorts.{AreInSorts}
use Rattle.golog_semantics.specs.Journal.{Journal}
use Rattle.golog_semantics.specs.Progress.{values_after}
use Rattle.golog_semantics.specs.Restart.{restarted, started}
use Rattle.golog_semantics.specs.Text.{Text, at_each, head_text, run_at, body_text, line_text, with_line_feed, report_text}
use Rattle.golog_semantics.specs.Truth.{Values}
use Rattle.golog_semantics.specs.Online.{label_of}
use Rattle.golog_semantics.specs.Reports.{IsReport, fits_entry, fits_run, place_limit}
use Rattle.golog_semantics.specs.ReportLaws.{TellsApart}
use Rattle.golog_laws.specs.TextLaws.{TextTellsReports, OneReportIsSpelled}
use Rattle.golog_semantics.proofs.Restarted.{restarted_report, started_apart}
use Rattle.golog_semantics.proofs.StartValues.{head_is, lines_of_values, lines_tell, of-sorts}
use Rattle.golog_semantics.proofs.Words.{and-left, and-right}
use Rattle.golog_semantics.proofs.Fits.{HasRun}
use Rattle.golog_laws.proofs.Bodies.{IsStep, bodies_tell}
use Rattle.golog_laws.proofs.RunPlaces.{IsRunPlace, has_run, runs_tell}

no_line : (x y : Text) → [] ≡ (x ++ 10 ∷ []) ++ y → ⊥
no_line [] y e = cc
no_line (b ∷ x) y e = cc

module _ (agent : Agent) (apart : TellsApart agent) (runs others : List PlacedRun) (has : (k : ℕ) → HasRun agent (run_at runs k)) (have : (k : ℕ) → HasRun agent (run_at others k)) where
  -- the text of these entries, the first of them after those before
  abbrev text_of : List PlacedRun → Journal → Journal → Text
  text_of rs before es = flat_map (with_line_feed agent) (at_each (line_text agent rs) before es)

  abbrev Fit : Journal → Journal → Type 0
  Fit before es = list_all (λ fits. fits) (at_each (fits_entry agent) before es) ≡ true

  -- each step begins the same run, the first entry at this place
  abbrev SameRuns : ℕ → Journal → Type 0
  SameRuns n [] = ⊤
  SameRuns n (e ∷ es) = (IsStep e → run_at runs n ≡ run_at others n) × SameRuns (n + 1) es

  line_regroup : (rs : List PlacedRun) (before es : Journal) (e : Entry)
      → text_of rs before (e ∷ es)
      ≡ (decimal (length before) ++ codes " ") ++ (body_text agent (values_after agent before) (run_at rs (length before)) e ++ 10 ∷ text_of rs (before ++ e ∷ []) es)
  line_regroup rs before es e =
      let start = decimal (length before) ++ codes " " in
      let body = body_text agent (values_after agent before) (run_at rs (length before)) e in
      append_assoc (start ++ body) (10 ∷ []) (text_of rs (before ++ e ∷ []) es) ∙ append_assoc start body (10 ∷ text_of rs (before ++ e ∷ []) es)

  pub entries_tell : (before es fs : Journal) → length before + length es ≤ place_limit + 1 → Fit before es → Fit before fs → text_of runs before es ≡ text_of others before fs
      → (es ≡ fs) × SameRuns (length before) es
  entries_tell before [] [] small f g e = (refl, tt)
  entries_tell before [] (d ∷ fs) small f g e = absurd (no_line (line_text agent others before d) (text_of others (before ++ d ∷ []) fs) e)
  entries_tell before (c ∷ es) [] small f g e = absurd (no_line (line_text agent runs before c) (text_of runs (before ++ c ∷ []) es) (sym e))
  entries_tell before (c ∷ es) (d ∷ fs) small f g e =
      let bodies = append_cancel_left (decimal (length before) ++ codes " ") _ _ (sym (line_regroup runs before es c) ∙ e ∙ line_regroup others before fs d) in
      let low : length before ≤ place_limit = omega arith in
      let one = bodies_tell agent apart before low (values_after agent before) c d (run_at runs (length before)) (run_at others (length before))
      (text_of runs (before ++ c ∷ []) es) (text_of others (before ++ d ∷ []) fs)
      (and-left (fits_entry agent before c) _ f) (and-left (fits_entry agent before d) _ g) (has (length before)) (have (length before)) bodies in
      let count : length (before ++ c ∷ []) ≡ length before + 1 = length-append before (c ∷ []) in
      let fits : Fit (before ++ c ∷ []) es = and-right (fits_entry agent before c) _ f in
      let fits-too : Fit (before ++ c ∷ []) fs = subst (λ x. Fit (before ++ x ∷ []) fs) (sym one.entry) (and-right (fits_entry agent before d) _ g) in
      let rest = entries_tell (before ++ c ∷ []) es fs (omega arith) fits fits-too (one.rest ∙ ap (λ x. text_of others (before ++ x ∷ []) fs) (sym one.entry)) in
      ((λ i. one.entry i ∷ rest.0 i), (one.run_same, subst (λ n. SameRuns n es) count rest.1))

  step-is : (e : Entry) → is_some (label_of e) ≡ true → IsStep e
  step-is (Do action) h = tt
  step-is Test h = tt
  step-is (Exo poster action) h = absurd (cc)
  step-is (Sense poster place fluent value) h = absurd (cc)
  step-is (Rest poster taken) h = absurd (cc)
  step-is (Close poster reason taken) h = absurd (cc)
  step-is (End answer) h = absurd (cc)

  pub same-at : (n : ℕ) (es : Journal) (k : ℕ) → SameRuns n es → IsRunPlace es k → run_at runs (n + k) ≡ run_at others (n + k)
  same-at n [] k s p = absurd (cc)
  same-at n (e ∷ es) zero s p = ap (run_at runs) (add-zero n) ∙ s.0 (step-is e p) ∙ ap (run_at others) (sym (add-zero n))
  same-at n (e ∷ es) (suc k) s p =
      let more : n + suc k ≡ n + 1 + k = omega arith in
      ap (run_at runs) more ∙ same-at (n + 1) es k s.1 p ∙ ap (run_at others) (sym more)

-- reports with the same start are told by the lines of their entries
lines_tell_reports : (agent : Agent) → TellsApart agent → (one other : Report) → IsReport agent one → IsReport agent other → one.start ≡ other.start
    → report_text agent one ≡ report_text agent other → one ≡ other
unfolding report_text
lines_tell_reports agent apart one other f g start-so e =
    let has = λ (k : ℕ). has_run agent one.entries one.runs k f.runs in
    let have = λ (k : ℕ). has_run agent other.entries other.runs k g.runs in
    let bound : length one.entries ≤ place_limit + 1 = leb-true (length one.entries) (place_limit + 1) f.in_bounds in
    let start : length {A = Entry} [] + length one.entries ≤ place_limit + 1 = omega arith in
    let told = entries_tell agent apart one.runs other.runs has have [] one.entries other.entries start f.entries g.entries e in
    let fits : list_all (fits_run agent one.entries) other.runs ≡ true = subst (λ es. list_all (fits_run agent es) other.runs ≡ true) (sym told.0) g.runs in
    let runs = runs_tell agent one.entries 0 one.runs other.runs f.in_order g.in_order f.runs fits
    (λ k past p. ap (run_at one.runs) (sym (zero-add k)) ∙ same-at agent apart one.runs other.runs has have 0 one.entries k told.1 p ∙ ap (run_at other.runs) (zero-add k)) in
    (λ i. record { entries = told.0 i; runs = runs i; start = start-so i })

nothing-same : (y : Text) → ◌≡◌ {A = Text} [] (103 ∷ y) → ⊥
nothing-same y e = cc

digit-same : (x y : Text) → ◌≡◌ {A = Text} (48 ∷ x) (103 ∷ y) → ⊥
digit-same x y e = cc

-- the lines of entries don't begin as a head does
no_head : (agent : Agent) (report : Report) (values : Values) (rest : Text) → report_text agent report ≡ head_text agent values ++ rest → ⊥
unfolding report_text
no_head agent report values rest e = go report.entries (e ∙ sym (head_is agent values rest))
  where
    zero_is : decimal 0 ≡ 48 ∷ []
    zero_is = decimal_digit 0 (omega arith)

    go : (es : Journal) → flat_map (with_line_feed agent) (at_each (line_text agent report.runs) [] es)
        ≡ (codes "golog 2" ++ 10 ∷ []) ++ (lines_of_values agent 0 values ++ ((codes "begin" ++ 10 ∷ []) ++ rest)) → ⊥
    go [] e = nothing-same ((codes "olog 2" ++ 10 ∷ []) ++ (lines_of_values agent 0 values ++ ((codes "begin" ++ 10 ∷ []) ++ rest))) e
    go (d ∷ es) e =
        let body = body_text agent (values_after agent []) (run_at report.runs 0) d in
        let more = flat_map (with_line_feed agent) (at_each (line_text agent report.runs) (d ∷ []) es) in
        digit-same (((codes " " ++ body) ++ 10 ∷ []) ++ more) ((codes "olog 2" ++ 10 ∷ []) ++ (lines_of_values agent 0 values ++ ((codes "begin" ++ 10 ∷ []) ++ rest)))
        (ap (λ n. with_line_feed agent ((n ++ codes " ") ++ body) ++ more) (sym zero_is) ∙ e)

-- heads tell their values, and what stands behind them
heads_tell : (agent : Agent) → TellsApart agent → (values others : Values) (s t : Text) → AreInSorts agent values → AreInSorts agent others
    → head_text agent values ++ s ≡ head_text agent others ++ t → (values ≡ others) × (s ≡ t)
heads_tell agent apart values others s t h k e =
    let first = codes "golog 2" ++ 10 ∷ [] in
    let last = codes "begin" ++ 10 ∷ [] in
    let behind = append_cancel_left first (lines_of_values agent 0 values ++ (last ++ s)) (lines_of_values agent 0 others ++ (last ++ t))
    (head_is agent values s ∙ e ∙ sym (head_is agent others t)) in
    let long : length values ≡ length others = h.whole ∙ sym k.whole in
    let told = lines_tell agent apart 0 values others (last ++ s) (last ++ t) (of-sorts agent values h) (of-sorts agent others k) long behind in
    (told.0, append_cancel_left last s t told.1)

module _ (agent : Agent) (apart : TellsApart agent) (one other : Report) (f : IsReport agent one) (g : IsReport agent other) where
  by-starts : (start also : Option Values) → one.start ≡ start → other.start ≡ also → IfSome start (AreInSorts agent) → IfSome also (AreInSorts agent)
      → option_map_or (head_text agent) start [] ++ report_text (started agent start) one ≡ option_map_or (head_text agent) also [] ++ report_text (started agent also) other → one ≡ other
  by-starts None None is also-is h k e = lines_tell_reports agent apart one other f g (is ∙ sym also-is) e
  by-starts None (Some others) is also-is h k e = absurd (no_head agent one others (report_text (restarted agent others) other) e)
  by-starts (Some values) None is also-is h k e = absurd (no_head agent other values (report_text (restarted agent values) one) (sym e))
  by-starts (Some values) (Some others) is also-is h k e =
      let told = heads_tell agent apart values others (report_text (restarted agent values) one) (report_text (restarted agent others) other) h k e in
      let same : report_text (restarted agent values) one ≡ report_text (restarted agent values) other =
      told.1 ∙ ap (λ vs. report_text (restarted agent vs) other) (sym told.0) in
      lines_tell_reports (restarted agent values) (started_apart agent (Some values) apart) one other (restarted_report agent values one f) (restarted_report agent values other g)
      (is ∙ ap Some told.0 ∙ sym also-is) same

pub text_tells : TextTellsReports
text_tells agent apart one other f g e = by-starts agent apart one other f g one.start other.start refl refl f.start g.start e

pub one_is_spelled : OneReportIsSpelled
one_is_spelled agent apart bytes one other f g = text_tells agent apart one other f.fits g.fits (sym f.text ∙ g.text)
