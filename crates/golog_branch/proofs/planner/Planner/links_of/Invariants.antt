use Rattle.std.proofs.Common.{◌≡◌, map, take}
use Rattle.std.specs.Prelude.{All, filter, fold}
use Rattle.std.specs.List.{flat_map}
use Rattle.golog_semantics.specs.Search.{is_followed}
use Rattle.golog_branch.specs.Levels.{IsSpot, linked, states_of, way_led, with_state}
use Rattle.golog_branch.specs.Places.{ArePlaces}
use Rattle.golog_branch.specs.Plans.{way_states}
use Rattle.golog_branch.proofs.planner.Planner.links_of.Given as goal

-- the states that the ways so far lead to are there, and the links lead to them
abbrev pub invariant-loop-way : goal.invariant-loop-way
invariant-loop-way l =
    let ways = filter is_followed (take l.way-index l.ways) in
    record {
      places : ArePlaces l.next;
      spots : All (IsSpot l.self.agent.now) l.next.spots;
      states : states_of l.next.spots
          ≡ fold with_state (states_of l.initial.next.spots) (flat_map (way_states l.self.agent.now l.state) ways);
      links : map (linked (states_of l.next.spots)) l.links ≡ map (way_led l.self.agent.now l.state) ways;
    }
