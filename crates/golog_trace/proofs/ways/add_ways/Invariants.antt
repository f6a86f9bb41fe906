use Rattle.std.proofs.Common.{◌≡◌, ◌++◌, take}
use Rattle.std.specs.List.{flat_map}
use Rattle.golog_trace.specs.Ways.{way_text}
use Rattle.golog_trace.proofs.ways.add_ways.Given as goal

abbrev pub invariant-loop-front : goal.invariant-loop-front
invariant-loop-front l = l.text ≡ l.initial.text ++ flat_map (way_text l.agent l.state) (take l.front-index l.fronts)
