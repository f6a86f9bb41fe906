use Rattle.std.proofs.Common.{All, IfSome}
use Rattle.std.specs.Vec.Iter.{into_iter_items}
use Rattle.golog_turn.specs.Seats.{IsSeatOf}
use Rattle.golog_device_tests.specs.declared.turns.Worker.{Worker}
use Rattle.golog_device_tests.proofs.turns.join_all.Given as goal

abbrev pub invariant-loop-worker : goal.invariant-loop-worker
invariant-loop-worker l =
    (goal.iterator-loop-worker).can_next l.worker-iterator × (goal.iterator-loop-worker).is_finite l.worker-iterator
    × All (λ (worker : Worker). IsSeatOf l.lock worker.seat) (into_iter_items l.worker-iterator)
    × IfSome l.all (λ (worker : Worker). IsSeatOf l.lock worker.seat)
