use Rattle.std.proofs.Common.{◌≡◌, ◌-◌, drop, map, take}
use Rattle.std.specs.Prelude.{All}
use Rattle.golog_find.specs.Batches.{IsSource, reached_of}
use Rattle.golog_find.proofs.deepening.Deepening.sources.Given as goal

-- the states so far
abbrev pub invariant-loop-place : goal.invariant-loop-place
invariant-loop-place l = record {
  states : map reached_of l.sources ≡ take (l.place - l.from) (drop l.from l.states);
  sources : All (IsSource l.self.agent.now l.nodes) l.sources;
}
