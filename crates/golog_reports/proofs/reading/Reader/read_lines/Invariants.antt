use Rattle.std.proofs.Common.{◌≡◌, ◌≤◌, ◌∷◌, length}
use Rattle.golog_reports.specs.Forms.{parts_behind, length_behind}
use Rattle.golog_reports.specs.Reads.{journal_from, lines_in}
use Rattle.golog_reports.specs.Views.{lent}
use Rattle.golog_reports.proofs.reading.Reader.read_lines.Given as goal

abbrev pub invariant-loop-behind : goal.invariant-loop-behind
invariant-loop-behind l = record {
  same : (journal_from l.self.agent.now l.report (l.text ∷ parts_behind 10 (lent l.behind))).outcome ≡ (journal_from l.self.agent.now l.initial.report (lines_in l.bytes)).outcome;
  few : length l.report.entries ≤ 2097152;
}

abbrev pub decreases-loop-behind : goal.decreases-loop-behind
decreases-loop-behind l = length_behind (lent l.behind)
