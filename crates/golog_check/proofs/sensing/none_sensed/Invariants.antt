use Rattle.std.proofs.Common.{◌≡◌, [], length}
use Rattle.golog_check.specs.Sensed.{TellsSensed}
use Rattle.golog_check.proofs.sensing.none_sensed.Given as goal

abbrev pub invariant-loop : goal.invariant-loop
invariant-loop l = record { sensed : TellsSensed l.sensed.items []; all : length l.sensed.items ≡ l.counter }
