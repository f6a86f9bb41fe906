use Rattle.std.proofs.Common.{◌≡◌, false, map, take}
use Rattle.std.specs.List.{list_any}
use Rattle.golog_trace.specs.Reading.{reads}
use Rattle.golog_trace.proofs.reading.+reads.Given as goal

abbrev pub invariant-one_reads-loop-cond : goal.invariant-one_reads-loop-cond
invariant-one_reads-loop-cond l = list_any (λ b. b) (map (reads l.fluent l.given) (take l.cond-index l.conds)) ≡ false
