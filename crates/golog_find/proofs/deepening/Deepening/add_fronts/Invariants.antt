use Rattle.std.proofs.Common.{◌≡◌, drop, fold, map}
use Rattle.golog_semantics.proofs.ByParts.{OfEach}
use Rattle.golog_ways.proofs.SearchedWays.{WayStays}
use Rattle.golog_find.specs.Levels.{with_stored}
use Rattle.golog_find.specs.Numbers.{IsLevel, level_of}
use Rattle.golog_find.proofs.OpenFronts.{way_at}
use Rattle.golog_find.proofs.deepening.Deepening.add_fronts.Given as goal

-- the steps still to come decide; they are the agent's
abbrev pub invariant-loop-at : goal.invariant-loop-at
invariant-loop-at l =
    (fold (with_stored l.self.agent.now l.self.mode l.self.room l.from l.values) (level_of l.nodes l.initial.level) (map (way_at l.nodes l.opened.fronts) l.places)
    ≡ fold (with_stored l.self.agent.now l.self.mode l.self.room l.from l.values) (level_of l.nodes l.level) (map (way_at l.nodes l.opened.fronts) (drop l.at l.places)))
    × IsLevel l.self.agent.now l.nodes l.level
    × OfEach (WayStays l.self.agent.now) (map (way_at l.nodes l.opened.fronts) (drop l.at l.places))
