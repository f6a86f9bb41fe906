use Rattle.std.proofs.Common.{◌≡◌, drop}
use Rattle.std.specs.List.{position_from}
use Rattle.golog_find.specs.Levels.{ends_at}
use Rattle.golog_find.specs.Numbers.{all_meant}
use Rattle.golog_find.proofs.search.Search.first_end.Given as goal

-- the states still to be tried decide
abbrev pub invariant-loop-place : goal.invariant-loop-place
invariant-loop-place l =
    position_from (ends_at l.agent l.mode) 0 (all_meant l.self.nodes l.self.last)
    ≡ position_from (ends_at l.agent l.mode) l.place (all_meant l.self.nodes (drop l.place l.self.last))
