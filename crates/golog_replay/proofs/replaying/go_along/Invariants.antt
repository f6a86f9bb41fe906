use Rattle.std.proofs.Common.{◌≡◌, Some, take, drop}
use Rattle.golog_semantics.specs.Online.{first_fault}
use Rattle.golog_text.proofs.RunsBehind.{from_place}
use Rattle.golog_replay.specs.Courses.{Follows}
use Rattle.golog_semantics.specs.Verdicts.{entry_lines}
use Rattle.golog_replay.proofs.Along.{faults_from}
use Rattle.golog_replay.proofs.replaying.go_along.Given as goal

abbrev pub invariant-loop-place : goal.invariant-loop-place
invariant-loop-place l = record {
  follows : Follows l.agent (take l.place l.report.entries) l.course;
  so_far :
      first_fault l.agent (Some (entry_lines l.agent l.bytes l.report.start)) l.report
      ≡ faults_from l.agent (entry_lines l.agent l.bytes l.report.start) l.report l.place;
  runs : l.runs ≡ from_place l.place l.report.runs;
  lines : l.lines ≡ drop l.place (entry_lines l.agent l.bytes l.report.start);
}
