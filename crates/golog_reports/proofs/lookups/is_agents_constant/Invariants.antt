use Rattle.std.proofs.Common.{◌≡◌, ℕ, ◌<◌, false}
use Rattle.std.specs.Prelude.{is_some}
use Rattle.golog_reports.specs.Reads.{constant_named}
use Rattle.golog_reports.proofs.lookups.is_agents_constant.Given as goal

abbrev pub invariant-loop-sort : goal.invariant-loop-sort
invariant-loop-sort l = (k : ℕ) → k < l.sort → is_some (constant_named l.agent k l.text) ≡ false
