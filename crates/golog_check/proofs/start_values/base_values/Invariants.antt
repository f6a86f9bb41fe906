use Rattle.std.proofs.Common.{◌≡◌, map, take}
use Rattle.std.specs.Prelude.{slice_index}
use Rattle.golog_tree.specs.Ground.{ground_fluents}
use Rattle.golog_check.specs.Starts.{Ground}
use Rattle.golog_check.proofs.start_values.base_values.Given as goal

abbrev pub invariant-loop-number : goal.invariant-loop-number
invariant-loop-number l =
    l.values.items ≡ map (λ (at : Ground). slice_index l.own at.0) (take l.number (ground_fluents l.agent))
