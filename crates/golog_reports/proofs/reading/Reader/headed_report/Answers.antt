use Rattle.golog_reports.specs.Answers.{code_at}
use Rattle.golog_reports.specs.Reads.{entries_read, headed_report}
use Rattle.golog_reports.proofs.Versions.{answers_by, headed_on, headed_refused}
use Rattle.golog_reports.proofs.reading.Reader.headed_report.Goals as goal

pub returns-in-Ok : goal.returns-in-Ok
returns-in-Ok c =
    let agent = c.args.self.now.agent.now in
    let values = c.read_head.new.values in
    let rest = c.in-Ok.rest.now in
    answers_by c.entries_read.result (entries_read agent values rest) (headed_report agent c.args.bytes.now)
    (headed_on agent c.args.bytes.now values rest c.in-Ok.ensures) c.entries_read.ensures

pub returns-in-Err : goal.returns-in-Err
returns-in-Err c = headed_refused c.args.self.now.agent.now c.args.bytes.now (code_at c.in-Err.fault) c.in-Err.ensures
