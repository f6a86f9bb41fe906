use Rattle.std.proofs.Common.{sym, subst}
use Rattle.golog_semantics.specs.Restart.{started}
use Rattle.golog_semantics.proofs.Restarted.{started_apart, started_fits, started_report}
use Rattle.golog_reports.specs.Laws.{TextsAreKept}
use Rattle.golog_reports.proofs.JournalOnly.{its-head, kept-is-spelled, spelled-rest}
use Rattle.golog_reports.proofs.SpelledLines.{spelled-is-kept}
use Rattle.golog_reports.proofs.laws.read_is_spelled.Goals as goal

pub returns : goal.returns
returns c = λ agent well apart bytes report e.
    let start = report.start in
    let own = started agent start in
    let head = its-head agent well bytes report e in (
      kept-is-spelled agent well bytes report e,
      λ spelled. subst (TextsAreKept own report) (sym head.lines)
          (spelled-is-kept own (started_fits agent start well head.sorts) (started_apart agent start apart) report (started_report agent start report spelled.fits)
          head.rest (spelled-rest agent well bytes report e spelled)),
    )
