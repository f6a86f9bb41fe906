use Rattle.std.proofs.Common.{◌≡◌, ◌++◌, take}
use Rattle.golog_semantics.specs.Progress.{values_after}
use Rattle.golog_semantics.specs.Restart.{started}
use Rattle.golog_semantics.specs.InSorts.{AreInSorts}
use Rattle.golog_text.proofs.Lines.{lines_from}
use Rattle.golog_text.proofs.RunsBehind.{from_place}
use Rattle.golog_text.proofs.journal.add_lines.Given as goal

abbrev pub invariant-loop-place : goal.invariant-loop-place
invariant-loop-place l = record {
  text : l.text ++ lines_from l.agent l.report.start l.report.runs l.report.entries l.place
      ≡ l.initial.text ++ lines_from l.agent l.report.start l.report.runs l.report.entries 0;
  values : l.state ≡ values_after (started l.agent l.report.start) (take l.place l.report.entries);
  sorts : AreInSorts l.agent l.state;
  runs : l.runs ≡ from_place l.place l.report.runs;
}
