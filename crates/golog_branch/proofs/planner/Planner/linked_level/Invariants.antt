use Rattle.std.proofs.Common.{◌≡◌, ◌≤◌, [], length, take}
use Rattle.std.specs.Prelude.{All, fold}
use Rattle.std.specs.List.{AllZip, flat_map}
use Rattle.golog_branch.specs.Levels.{IsLinked, IsSpot, states_of, with_state}
use Rattle.golog_branch.specs.Places.{ArePlaces}
use Rattle.golog_branch.specs.Plans.{next_states}
use Rattle.golog_branch.proofs.planner.Planner.linked_level.Given as goal

-- the states so far are linked to those that they lead to, for which there is room
abbrev pub invariant-loop-spot : goal.invariant-loop-spot
invariant-loop-spot l =
    let states = states_of (take l.spot-index l.spots) in
    record {
      places : ArePlaces l.next;
      spots : All (IsSpot l.self.agent.now) l.next.spots;
      states_so : states_of l.next.spots ≡ fold with_state [] (flat_map (next_states l.self.agent.now) states);
      linked_so : AllZip (IsLinked l.self.agent.now (states_of l.next.spots)) states l.level;
      few : length l.next.spots ≤ l.room;
    }
