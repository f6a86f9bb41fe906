use Rattle.std.proofs.Common.{◌≡◌, [], length, take}
use Rattle.golog_check.specs.Checked.{IsChecked}
use Rattle.golog_check.specs.Effects.{senses_in}
use Rattle.golog_check.specs.Sensed.{TellsSensed}
use Rattle.golog_check.proofs.sensing.sense_items_in.Given as goal

abbrev pub invariant-loop-item : goal.invariant-loop-item
invariant-loop-item l = record {
  checked : IsChecked l.checked (senses_in l.names [] (take l.item-index l.items));
  sensed : TellsSensed l.sensed.items (take l.item-index l.items);
  all : length l.sensed.items ≡ length l.names.actions;
}
