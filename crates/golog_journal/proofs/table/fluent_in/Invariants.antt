use Rattle.std.proofs.Common.{◌≡◌, length, map, take}
use Rattle.golog_semantics.specs.Truth.{env_of, arg_value}
use Rattle.golog_journal.proofs.table.fluent_in.Given as goal

abbrev pub invariant-loop-index : goal.invariant-loop-index
invariant-loop-index l =
    (take l.index l.given ≡ take l.index (map (arg_value (env_of l.args)) l.sense.args)) × (length l.given ≡ 3)
