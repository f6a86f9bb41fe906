use Rattle.std.proofs.Common.{◌≡◌, [], map, drop}
use Rattle.golog_semantics.specs.declared.Mode.{Mode}
use Rattle.golog_semantics.specs.Truth.{Values, arg_value, env_of}
use Rattle.golog_semantics.specs.Values.{is_possible, possible_by}
use Rattle.golog_fronts.proofs.laying.precondition_of.Given as goal

-- the items still to be tried decide
abbrev pub invariant-loop-item : goal.invariant-loop-item
invariant-loop-item l =
    (m : Mode) (values : Values) → is_possible l.agent values m l.action (map (arg_value (env_of [])) l.args)
    ≡ possible_by l.agent values m l.action (map (arg_value (env_of [])) l.args) (drop l.item-index l.agent.poss)
