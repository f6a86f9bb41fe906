use Rattle.std.proofs.Common.{◌≡◌, take}
use Rattle.golog_shapes.specs.Fronts.{skip_round}
use Rattle.golog_shapes.proofs.fronts.SkipsRound.next.Given as goal

abbrev pub invariant-loop-item : goal.invariant-loop-item
invariant-loop-item l = l.after ≡ skip_round (take l.item-index l.self.procs.now) l.before
