use Rattle.std.proofs.Common.{◌≡◌, ℕ, map, take}
use Rattle.std.specs.List.{enumerate_from}
use Rattle.golog_shapes.specs.declared.fronts.Nesting.{Nesting}
use Rattle.golog_shapes.specs.Told.{reached_by}
use Rattle.golog_shapes.proofs.reaching.reached_of_each.Given as goal

abbrev pub invariant-loop-goal : goal.invariant-loop-goal
invariant-loop-goal l = l.reached ≡ map (λ (at : ℕ × Nesting). reached_by l.items at.0) (enumerate_from 0 (take l.goal l.items))
