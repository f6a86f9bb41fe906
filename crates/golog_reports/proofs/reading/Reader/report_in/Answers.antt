use Rattle.std.proofs.Common.{◌≡◌, Some, None, sym, ap, ◌∙◌}
use Rattle.golog_reports.specs.Reads.{headed_report, journal_of, plain_report, version_line}
use Rattle.golog_reports.specs.Said.{behind}
use Rattle.golog_reports.specs.Views.{lent}
use Rattle.golog_reports.proofs.Versions.{answers_by, with_head, without_head}
use Rattle.golog_reports.proofs.reading.Reader.report_in.Goals as goal

pub returns-in-Some : goal.returns-in-Some
returns-in-Some c =
    let agent = c.args.self.now.agent.now in
    let bytes = c.args.bytes.now in
    let rest = c.in-Some.rest.now in
    let is : behind version_line bytes ≡ Some rest = sym c.behind.ensures ∙ ap lent c.in-Some.is in
    answers_by c.headed_report.result (headed_report agent rest) (journal_of agent bytes) (with_head agent bytes rest is) c.headed_report.ensures

pub returns-in-None : goal.returns-in-None
returns-in-None c =
    let agent = c.args.self.now.agent.now in
    let bytes = c.args.bytes.now in
    let is : behind version_line bytes ≡ None = sym c.behind.ensures ∙ ap lent c.in-None.is in
    answers_by c.report_from.result (plain_report agent bytes) (journal_of agent bytes) (without_head agent bytes is) c.report_from.ensures
