use Rattle.std.proofs.Common.{◌≡◌, [], drop}
use Rattle.golog_rows.specs.Reading.{each}
use Rattle.golog_check.specs.Terms.{next_arg}
use Rattle.golog_check.proofs.args.args_in.Given as goal

abbrev pub invariant-loop-arg : goal.invariant-loop-arg
invariant-loop-arg l = (each (next_arg l.names l.scope l.sorts) l.list (drop l.arg-index l.args)).outcome ≡ (each (next_arg l.names l.scope l.sorts) [] l.args).outcome
