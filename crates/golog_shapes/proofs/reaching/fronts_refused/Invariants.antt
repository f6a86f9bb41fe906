use Rattle.std.proofs.Common.{take}
use Rattle.std.specs.List.{flat_map, enumerate_from}
use Rattle.golog_rows.specs.Least.{IsLeastOf}
use Rattle.golog_shapes.specs.Shapes.{shapes}
use Rattle.golog_shapes.specs.Unguarded.{front_refusals}
use Rattle.golog_shapes.proofs.reaching.fronts_refused.Given as goal

abbrev pub invariant-loop-index : goal.invariant-loop-index
invariant-loop-index l = IsLeastOf l.least (flat_map (front_refusals (shapes l.procs)) (enumerate_from 0 (take l.index l.procs)))
