use Rattle.golog_turn.specs.Seats.{IsSeatOf}
use Rattle.golog_device_tests.proofs.turns.Worker.add_many.Given as goal

abbrev pub invariant-loop : goal.invariant-loop
invariant-loop g l = IsSeatOf l.lock l.«self».seat
