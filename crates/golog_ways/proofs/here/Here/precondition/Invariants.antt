use Rattle.std.proofs.Common.{◌≡◌, [], map, drop}
use Rattle.golog_semantics.specs.Truth.{arg_value, env_of}
use Rattle.golog_fronts.specs.Precondition.{precondition, precondition_by}
use Rattle.golog_ways.proofs.here.Here.precondition.Given as goal

-- the items still to be tried decide
abbrev pub invariant-loop-item : goal.invariant-loop-item
invariant-loop-item l =
    precondition l.self.agent.now l.self.values.now l.action (map (arg_value (env_of [])) l.args)
    ≡ precondition_by l.self.agent.now l.self.values.now l.action (map (arg_value (env_of [])) l.args) (drop l.item-index l.self.agent.now.poss)
