use Rattle.std.proofs.Common.{◌≡◌, ℕ, Bool, ◌&&◌, List, drop}
use Rattle.std.specs.List.{list_any, enumerate_from}
use Rattle.golog_shapes.specs.Unguarded.{said}
use Rattle.golog_shapes.specs.Told.{is_endless}
use Rattle.golog_shapes.proofs.reaching.is_endless.Given as goal

abbrev pub invariant-loop-goal : goal.invariant-loop-goal
invariant-loop-goal l =
    is_endless l.reached l.item
    ≡ list_any (λ (at : ℕ × List Bool). said at.1 at.0 && said at.1 l.item) (enumerate_from l.goal (drop l.goal l.reached))
