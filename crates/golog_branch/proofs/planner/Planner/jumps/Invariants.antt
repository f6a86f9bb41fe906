use Rattle.std.proofs.Common.{◌≡◌, map, take}
use Rattle.std.specs.Prelude.{All, fold}
use Rattle.golog_branch.specs.declared.cases.Case.{Case}
use Rattle.golog_branch.specs.Levels.{IsSpot, case_of, jumped, led, states_of, with_state}
use Rattle.golog_branch.specs.Places.{ArePlaces}
use Rattle.golog_branch.proofs.planner.Planner.jumps.Given as goal

-- the states of the cases so far are there, and the jumps lead to them
abbrev pub invariant-loop-case : goal.invariant-loop-case
invariant-loop-case l = record {
  places : ArePlaces l.next;
  spots : All (IsSpot l.self.agent.now) l.next.spots;
  states : states_of l.next.spots
      ≡ fold with_state (states_of l.initial.next.spots) (map (λ (c : Case). (l.left, c.state)) (take l.case-index l.cases));
  jumps : map (jumped (states_of l.next.spots)) l.jumps ≡ map (λ (c : Case). led l.left (case_of c)) (take l.case-index l.cases);
}
