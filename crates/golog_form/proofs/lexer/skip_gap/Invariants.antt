use Rattle.std.proofs.Common.{◌≡◌, ◌≤◌, ◌-◌, length, false}
use Rattle.golog_form.specs.Tokens.{tokens_from}
use Rattle.golog_form.proofs.lexer.skip_gap.Given as goal

abbrev pub invariant-loop-place : goal.invariant-loop-place
invariant-loop-place l = record {
  after : l.at ≤ l.place;
  in_bytes : l.place ≤ length l.bytes;
  same : tokens_from false l.at l.bytes ≡ tokens_from false l.place l.bytes;
}

abbrev pub decreases-loop-place : goal.decreases-loop-place
decreases-loop-place l = length l.bytes - l.place
