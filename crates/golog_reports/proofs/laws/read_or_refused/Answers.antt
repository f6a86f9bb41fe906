use Rattle.std.proofs.Common.{◌≡◌, ℕ, Result, Ok, Err, refl, sym, ap, ◌∙◌}
use Rattle.golog_rows.specs.Reading.{refusal_in}
use Rattle.golog_tree.specs.declared.agent.Agent.{Agent}
use Rattle.golog_semantics.specs.declared.journal.Report.{Report}
use Rattle.golog_semantics.specs.ReportLaws.{TellsApart}
use Rattle.golog_semantics.specs.Text.{Text}
use Rattle.golog_semantics.specs.WellFormed.{WellFormed}
use Rattle.golog_reports.specs.Laws.{IsReadOrRefused}
use Rattle.golog_reports.specs.Reads.{journal_of}
use Rattle.golog_reports.specs.ReadsAs.{ReadsAs}
use Rattle.golog_reports.proofs.JournalBack.{said-is-read}
use Rattle.golog_reports.proofs.JournalOnly.{read-says}
use Rattle.golog_reports.proofs.laws.read_or_refused.Goals as goal

abbrev Outcome : Type 0
Outcome = Result Report (ℕ × ℕ)

same-report : (one other : Report) → ◌≡◌ {A = Outcome} (Ok one) (Ok other) → one ≡ other
same-report one other e = cc

not-both : (report : Report) (refusal : ℕ × ℕ) → ◌≡◌ {A = Outcome} (Ok report) (Err refusal) → ⊥
not-both report refusal e = cc

module _ (agent : Agent) (well : WellFormed agent) (apart : TellsApart agent) (bytes : Text) where
  read : (report : Report) → ReadsAs agent bytes report → (journal_of agent bytes).outcome ≡ Ok report
  read report said = said-is-read agent well apart report said.fits bytes said

  by-outcome : (outcome : Outcome) → (journal_of agent bytes).outcome ≡ outcome → IsReadOrRefused agent bytes outcome
  by-outcome (Ok report) e = (read-says agent well bytes report e, λ other said. same-report other report (sym (read other said) ∙ e))
  by-outcome (Err refusal) e = (
    (journal_of agent bytes).agrees ∙ ap refusal_in e,
    λ report said. not-both report refusal (sym (read report said) ∙ e),
  )

pub returns : goal.returns
returns c = λ agent well apart bytes. by-outcome agent well apart bytes (journal_of agent bytes).outcome refl
