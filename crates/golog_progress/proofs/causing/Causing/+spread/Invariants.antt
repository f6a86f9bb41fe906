use Rattle.std.proofs.Common.{length, ◌+◌, ◌*◌}
use Rattle.golog_tree.specs.Ground.{sizes}
use Rattle.golog_progress.specs.Effects.{IsRanged, effect_in}
use Rattle.golog_progress.proofs.causing.Causing.+spread.Given as goal

abbrev pub decreases-spread : goal.decreases-spread
decreases-spread l = 2 * length l.sorts.now

abbrev pub decreases-range_over : goal.decreases-range_over
decreases-range_over l = 2 * length l.sorts.now + 1

abbrev pub invariant-range_over-loop-constant : goal.invariant-range_over-loop-constant
invariant-range_over-loop-constant l =
    IsRanged (effect_in l.self) (sizes l.self.agent.now l.sorts) l.args l.found l.places.first l.fn.next l.constant l.next
