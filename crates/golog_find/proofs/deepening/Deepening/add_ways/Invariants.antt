use Rattle.std.proofs.Common.{◌≡◌, drop, fold}
use Rattle.golog_semantics.proofs.ByParts.{OfEach}
use Rattle.golog_find.specs.Levels.{with_stored}
use Rattle.golog_find.specs.Numbers.{GoesOn, IsLevel, level_of}
use Rattle.golog_ways.proofs.SearchedWays.{WayStays}
use Rattle.golog_find.proofs.deepening.Deepening.add_ways.Given as goal

-- the ways still to come decide; they are the agent's
abbrev pub invariant-loop-way : goal.invariant-loop-way
invariant-loop-way l =
    (fold (with_stored l.self.agent.now l.self.mode l.self.room l.from l.source.reached.values.now) (level_of l.initial.nodes l.initial.level) l.ways
    ≡ fold (with_stored l.self.agent.now l.self.mode l.self.room l.from l.source.reached.values.now) (level_of l.nodes l.level) (drop l.way-index l.ways))
    × IsLevel l.self.agent.now l.nodes l.level × GoesOn l.initial.nodes l.nodes
    × OfEach (WayStays l.self.agent.now) (drop l.way-index l.ways)
