-- The lines of bytes that spell a report are the texts of its entries.
use Rattle.std.proofs.Common.{◌≡◌, true, Some, List, [], ◌∷◌, ◌++◌, length, refl, sym, ap, ◌∙◌, subst}
use Rattle.std.specs.Prelude.{slice_get}
use Rattle.std.specs.List.{flat_map, list_all}
use Rattle.std.proofs.lemmas.List.{append-nil, append_assoc}
use Rattle.golog_tree.specs.declared.agent.Agent.{Agent}
use Rattle.golog_semantics.specs.declared.journal.Entry.{Entry}
use Rattle.golog_semantics.specs.declared.journal.Report.{Report}
use Rattle.golog_semantics.specs.Journal.{Journal}
use Rattle.golog_semantics.specs.Online.{same_line}
use Rattle.golog_semantics.specs.Progress.{values_after}
use Rattle.golog_semantics.specs.ReportLaws.{TellsApart}
use Rattle.golog_semantics.specs.Reports.{IsReport, fits_entry}
use Rattle.golog_semantics.specs.SortLaws.{ResultsFit}
use Rattle.golog_semantics.specs.Text.{Text, at_each, line_text, report_text, with_line_feed}
use Rattle.golog_semantics.specs.WellFormed.{WellFormed}
use Rattle.golog_semantics.proofs.CausesKeep.{values_stay_in_sorts}
use Rattle.golog_semantics.proofs.Levels.{same_values-same}
use Rattle.golog_semantics.proofs.Words.{and-left, and-right}
use Rattle.golog_reports.specs.Forms.{parts}
use Rattle.golog_reports.specs.Laws.{TextsAreKept}
use Rattle.golog_reports.specs.Reads.{lines_in}
use Rattle.golog_reports.proofs.JournalBack.{line-lacks}
use Rattle.golog_reports.proofs.Marks.{Lacks, parts-first}
use Rattle.golog_reports.proofs.WrittenSaid.{line-same, may-stand, old_of, one-result, results-next}

-- what is said of an entry stands at its place
said-at : {A : Type 0} (say : Journal → Entry → A) (start before : Journal) (e : Entry) (later : Journal) (more : List A)
    → slice_get (at_each say start (before ++ e ∷ later) ++ more) (length before) ≡ Some (say (start ++ before) e)
said-at say start [] e later more = ap (λ j. Some (say j e)) (sym (append-nil start))
said-at say start (d ∷ before) e later more = said-at say (start ++ d ∷ []) before e later more ∙ ap (λ j. Some (say j e)) (append_assoc start (d ∷ []) before)

module _ (agent : Agent) (well : WellFormed agent) (apart : TellsApart agent) (report : Report) (fits : IsReport agent report) where
  parts-are : (before entries : Journal) → report.entries ≡ before ++ entries → ResultsFit agent before → list_all (λ fits. fits) (at_each (fits_entry agent) before entries) ≡ true
      → parts 10 (flat_map (with_line_feed agent) (at_each (line_text agent report.runs) before entries)) ≡ at_each (line_text agent report.runs) before entries ++ [] ∷ []
  parts-are before [] es results fit = refl
  parts-are before (e ∷ entries) es results fit =
      let later = list_all (λ b. b) (at_each (fits_entry agent) (before ++ e ∷ []) entries) in
      let one = and-left (fits_entry agent before e) later fit in
      let own = line_text agent report.runs before e in
      let rest = flat_map (with_line_feed agent) (at_each (line_text agent report.runs) (before ++ e ∷ []) entries) in
      let values = values_after agent before in
      let may = may-stand agent before values e (values_stay_in_sorts agent well before results) one in
      let lacks : Lacks 10 own = subst (Lacks 10) (sym (line-same agent report.runs before e)) (line-lacks agent well apart report fits before e entries es (old_of values e) one may) in
      ap (parts 10) (append_assoc own (10 ∷ []) rest) ∙ parts-first 10 own rest lacks
      ∙ ap (λ ts. own ∷ ts) (parts-are (before ++ e ∷ []) entries (es ∙ sym (append_assoc before (e ∷ []) entries)) (results-next agent before e results (one-result agent before e one)) (and-right (fits_entry agent before e) later fit))

  pub spelled-is-kept : (bytes : Text) → bytes ≡ report_text agent report → TextsAreKept agent report (lines_in bytes)
  unfolding report_text
  spelled-is-kept bytes e before entry later es =
      let own = line_text agent report.runs before entry in
      let lines : lines_in bytes ≡ at_each (line_text agent report.runs) [] report.entries ++ [] ∷ [] = ap (parts 10) e ∙ parts-are [] report.entries refl tt fits.entries in
      let at : slice_get (lines_in bytes) (length before) ≡ Some own =
      ap (λ ts. slice_get ts (length before)) (lines ∙ ap (λ j. at_each (line_text agent report.runs) [] j ++ [] ∷ []) es) ∙ said-at (line_text agent report.runs) [] before entry later ([] ∷ []) in
      ap (λ o. same_line o own) at ∙ same_values-same own
