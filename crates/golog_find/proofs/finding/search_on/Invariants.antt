use Rattle.std.proofs.Common.{◌≡◌, [], ◌∷◌, false}
use Rattle.golog_semantics.specs.Truth.{Values}
use Rattle.golog_ways.specs.Searched.{IsSearched}
use Rattle.golog_find.specs.Levels.{AreSearched, start_of}
use Rattle.golog_find.specs.Numbers.{IsNumbered, looked_of}
use Rattle.golog_find.specs.Visits.{AreKept}
use Rattle.golog_find.proofs.StoredSearch.{IsLookingOn}
use Rattle.golog_find.proofs.finding.search_on.Given as goal

abbrev pub invariant-loop-step : goal.invariant-loop-step
invariant-loop-step g l =
    IsNumbered l.search × AreKept l.agent l.search.nodes l.search.visits × AreSearched l.agent (looked_of l.search).last
    × ((values : Values) → IsSearched l.agent l.block.body values
    → looked_of l.initial.search ≡ record { before = []; last = start_of l.block.body values ∷ []; cut = false }
    → IsLookingOn l.bounded l.agent l.mode l.block values l._step l.fuel (looked_of l.search))
