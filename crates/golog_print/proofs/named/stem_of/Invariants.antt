use Rattle.std.proofs.Common.{◌≡◌, ◌-◌}
use Rattle.golog_print.specs.Printing.{first_passing, is_free, stem_no}
use Rattle.golog_print.proofs.named.stem_of.Given as goal

abbrev pub invariant-loop-number : goal.invariant-loop-number
invariant-loop-number l = stem_no l.agent ≡ first_passing (is_free l.agent) l.number (100000 - l.number)
