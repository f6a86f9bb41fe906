use Rattle.std.proofs.Common.{◌≡◌, ◌-◌, drop}
use Rattle.golog_find.specs.Levels.{stored_level, stored_steps}
use Rattle.golog_find.specs.Numbers.{GoesOn, IsLevel, all_meant, level_of}
use Rattle.golog_find.proofs.deepening.Deepening.led_from.Given as goal

-- the states still to be looked at decide
abbrev pub invariant-loop-from : goal.invariant-loop-from
invariant-loop-from g l = record {
  next : stored_level l.self.agent.now l.self.mode l.self.room (all_meant l.initial.nodes l.states)
      ≡ stored_steps l.self.agent.now l.self.mode l.self.room l.from (level_of l.nodes l.level) (all_meant l.initial.nodes (drop l.from l.states));
  level : IsLevel l.self.agent.now l.nodes l.level;
  goes_on : GoesOn l.initial.nodes l.nodes;
}

abbrev pub decreases-loop-from : goal.decreases-loop-from
decreases-loop-from g l = l.count - l.from
