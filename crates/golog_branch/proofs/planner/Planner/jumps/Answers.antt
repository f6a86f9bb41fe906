use Rattle.std.proofs.Common.{[], ◌∷◌, map, take, ◌+◌, arith}
use Rattle.golog_ways.specs.Searched.{IsSearched}
use Rattle.golog_branch.specs.declared.cases.Case.{Case}
use Rattle.golog_branch.specs.Levels.{case_of, led, states_of}
use Rattle.golog_branch.proofs.CasesKeep.{all-at}
use Rattle.golog_branch.proofs.Linking.{fold-next, jumps-next, map-next}
use Rattle.golog_branch.proofs.planner.Planner.jumps.Goals as goal

pub place-requires-clause-searched : goal.place-requires-clause-searched
place-requires-clause-searched c =
    all-at (λ (x : Case). IsSearched c.args.self.now.agent.now c.args.left.now x.state) c.args.cases.now c.loop-case.case-index c.case-item.result (omega arith) c.case-item.is c.requires.cases

pub loop-case-preserved : goal.loop-case-preserved
loop-case-preserved c =
    let cases = c.args.cases.now in
    let i = c.loop-case.case-index in
    let case = c.case-item.result in
    let left = c.args.left.now in
    let old = states_of c.loop-case.next.spots in
    let new = states_of c.place.new.self.spots in
    let inv = c.loop-case.invariant in
    let placed = c.in_ok-place.ensures in
    record {
      places = placed.places;
      spots = placed.spots;
      states = fold-next (states_of c.args.next.now.spots) old new (map (λ (x : Case). (left, x.state)) (take i cases)) (map (λ (x : Case). (left, x.state)) (take (i + 1) cases)) (left, case.state) inv.states placed.states
          (map-next (λ (x : Case). (left, x.state)) cases i case (omega arith) c.case-item.is);
      jumps = jumps-next (λ (x : Case). x.value) (λ (x : Case). (left, x.state)) old new ((left, case.state) ∷ []) c.loop-case.jumps c.push.new.self (take i cases) (take (i + 1) cases) case
          c.in_ok-place.place placed.states c.in_ok-push.ensures.ok inv.jumps placed.place
          (map-next (λ (x : Case). led left (case_of x)) cases i case (omega arith) c.case-item.is);
    }
