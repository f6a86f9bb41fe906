use Rattle.std.proofs.Common.{◌≡◌, ◌++◌, take}
use Rattle.golog_semantics.specs.Progress.{values_after}
use Rattle.golog_semantics.specs.InSorts.{AreInSorts}
use Rattle.golog_text.proofs.RunsBehind.{from_place}
use Rattle.golog_trace.proofs.Lines.{rest}
use Rattle.golog_trace.proofs.entries.add_entries.Given as goal

abbrev pub invariant-loop-place : goal.invariant-loop-place
invariant-loop-place l = record {
  text : l.text ++ rest l.agent l.report.runs l.report.entries l.place l.state
      ≡ l.initial.text ++ rest l.agent l.report.runs l.report.entries 0 l.agent.starts;
  values : l.state ≡ values_after l.agent (take l.place l.report.entries);
  sorts : AreInSorts l.agent l.state;
  runs : l.runs ≡ from_place l.place l.report.runs;
}
