use Rattle.std.proofs.Common.{◌≡◌, ◌+◌, ◌≤◌, drop, map}
use Rattle.golog_find.specs.Batches.{handed, source_meant, ways_at}
use Rattle.golog_find.specs.Levels.{stored_steps}
use Rattle.golog_find.specs.Numbers.{GoesOn, IsLevel, level_of}
use Rattle.golog_find.proofs.deepening.Deepening.merge.Given as goal

-- the states still to be looked at decide, and the lists still to be used are theirs
abbrev pub invariant-loop-at : goal.invariant-loop-at
invariant-loop-at l = record {
  steps : stored_steps l.self.agent.now l.self.mode l.self.room l.from (level_of l.initial.nodes l.initial.level) (map (source_meant l.initial.nodes) l.sources)
      ≡ stored_steps l.self.agent.now l.self.mode l.self.room (l.from + l.at) (level_of l.nodes l.level) (map (source_meant l.initial.nodes) (drop l.at l.sources));
  level : IsLevel l.self.agent.now l.nodes l.level;
  goes_on : GoesOn l.initial.nodes l.nodes;
  listed : drop l.used l.told.listed ≡ map (ways_at l.self.agent.now l.self.mode l.initial.nodes) (handed (drop l.at l.sources));
  few : l.used ≤ l.at;
}
