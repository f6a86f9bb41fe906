use Rattle.std.proofs.Common.{Some, ap, ◌∙◌}
use Rattle.golog_semantics.specs.Verdicts.{head_length}
use Rattle.golog_reports.specs.Answers.{code_at}
use Rattle.golog_reports.specs.Moved.{moved_outcome, moved_place}
use Rattle.golog_reports.specs.Reads.{empty_report, entries_read, journal_from, lines_in}
use Rattle.golog_reports.proofs.Versions.{moved_answer, place-within}
use Rattle.golog_reports.proofs.reading.Reader.entries_read.Goals as goal

pub returns-in-Ok : goal.returns-in-Ok
unfolding entries_read
returns-in-Ok c = ap (moved_outcome (head_length c.args.self.now.agent.now)) c.in-Ok.ensures

pub moved-requires-clause-within : goal.moved-requires-clause-within
moved-requires-clause-within c = place-within c.args.self.now.agent.now (Some c.args.values) c.args.bytes.now c.in-Err.fault c.in-Err.ensures

pub returns-in-Err : goal.returns-in-Err
unfolding entries_read
returns-in-Err c =
    let agent = c.args.self.now.agent.now in
    moved_answer (head_length agent) (journal_from agent (empty_report (Some c.args.values)) (lines_in c.args.bytes.now)) c.in-Err.fault c.moved.result
    (c.moved.ensures ∙ ap (λ n. moved_place n (code_at c.in-Err.fault)) c.head_length.ensures.length) c.in-Err.ensures
