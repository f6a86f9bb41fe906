use Rattle.std.proofs.Common.{◌≡◌, [], length, ◌-◌}
use Rattle.golog_semantics.specs.Values.{ground_fluents}
use Rattle.golog_reports.specs.Reads.{head_from}
use Rattle.golog_reports.proofs.head.read_head.Given as goal

abbrev pub invariant-loop : goal.invariant-loop
invariant-loop l = record {
  same : (head_from l.agent (length (ground_fluents l.agent) - l.counter) l.values l.rest).outcome
      ≡ (head_from l.agent (length (ground_fluents l.agent)) [] l.text).outcome;
  many : length l.values ≡ l.counter;
}
