-- The entry that comes next has a line.
use Rattle.std.proofs.Common.{◌≡◌, ℕ, ◌+◌, ◌≤◌, [], ◌∷◌, ◌++◌, length, length-append, Option, Some, sym, ap, ◌∙◌, subst, arith, IfSome}
use Rattle.std.proofs.lemmas.Option.{get_or_from_slice_get, slice_get_within}
use Rattle.std.specs.Prelude.{List, slice_get}
use Rattle.golog_tree.specs.declared.agent.Agent.{Agent}
use Rattle.golog_tree.specs.declared.prog.Label.{Label}
use Rattle.golog_semantics.specs.declared.journal.Entry.{Entry}
use Rattle.golog_semantics.specs.InlineText.{begun_runs, report_of}
use Rattle.golog_semantics.specs.Journal.{Journal, longest}
use Rattle.golog_semantics.specs.Progress.{values_after}
use Rattle.golog_semantics.specs.Reports.{IsReport}
use Rattle.golog_semantics.specs.Text.{Text, line_text, run_at, with_line_feed}
use Rattle.golog_semantics.specs.Truth.{Values}
use Rattle.golog_semantics.specs.WellFormed.{WellFormed}
use Rattle.golog_semantics.proofs.GroundNumbers.{slice_get-right}
use Rattle.golog_text.specs.Filled.{IsLineOf}
use Rattle.golog_text.specs.Named.{AreLabels, IsNamed}
use Rattle.golog_text.proofs.Things.{entries_named, run_named, runs_named}
use Rattle.golog_journal.specs.Boards.{IsBoardList}
use Rattle.golog_lead.specs.Keeping.{begun_by}
use Rattle.golog_lead.proofs.BegunRuns.{run-here}
use Rattle.golog_lead.proofs.RunsFit.{begun-few, is-report-within}

module _ (agent : Agent) (journal : Journal) (e : Entry) where
  module _ (formed : WellFormed agent) (lawful : IsBoardList agent (journal ++ e ∷ [])) (short : length journal ≤ longest) where
    reports : IsReport agent (report_of agent (journal ++ e ∷ []))
    reports = is-report-within agent (journal ++ e ∷ []) formed lawful (let l = length-append journal (e ∷ []) in omega (arith, l, short))

    here : slice_get (journal ++ e ∷ []) (length journal) ≡ Some e
    here = slice_get-right journal (e ∷ []) (length journal) 0 (omega arith)

    pub next-named : IsNamed agent e
    next-named =
        subst (IsNamed agent) (get_or_from_slice_get (journal ++ e ∷ []) (length journal) e e here)
        (entries_named agent (report_of agent (journal ++ e ∷ [])) reports (length journal) e (slice_get_within (journal ++ e ∷ []) (length journal) e here))

    module _ (run : Option (List Label)) (is : run ≡ begun_by agent journal e) where
      pub next-labels : IfSome run (AreLabels agent)
      next-labels =
          subst (λ o. IfSome o (AreLabels agent)) (run-here agent journal e ∙ sym is)
          (run_named agent (begun_runs agent (journal ++ e ∷ [])) (runs_named agent (report_of agent (journal ++ e ∷ [])) reports) (length journal))

      pub next-few : IfSome run (λ labels. length labels ≤ 64)
      next-few = subst (λ (o : Option (List Label)). IfSome o (λ labels. length labels ≤ 64)) (sym is) (begun-few agent formed journal e)

  -- its line
  pub line-is : (place : ℕ) (values : Values) (run : Option (List Label)) (text : Text) → place ≡ length journal → values ≡ values_after agent journal
      → run ≡ begun_by agent journal e → IsLineOf agent place values run e text
      → text ≡ with_line_feed agent (line_text agent (begun_runs agent (journal ++ e ∷ [])) journal e)
  line-is place values run text at known is of =
      of journal (begun_runs agent (journal ++ e ∷ [])) (sym at) (sym known)
      (ap (λ n. run_at (begun_runs agent (journal ++ e ∷ [])) n) at ∙ run-here agent journal e ∙ sym is)
