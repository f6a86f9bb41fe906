use Rattle.std.proofs.Common.{◌≡◌, ◌+◌, ◌<◌, ◌≤◌, [], ◌∷◌, List, length, take, sym, ap, ◌∙◌, subst, arith}
use Rattle.std.specs.Prelude.{All, fold}
use Rattle.std.specs.List.{AllZip, flat_map}
use Rattle.std.proofs.lemmas.List.{length-map, take_all}
use Rattle.std.proofs.lemmas.List.Elements.{All-nil}
use Rattle.golog_semantics.specs.Blocks.{State}
use Rattle.golog_branch.specs.declared.spot.Spot.{Spot}
use Rattle.golog_branch.specs.Levels.{IsLinked, IsSpot, state_of, states_of, with_state}
use Rattle.golog_branch.specs.Plans.{next_states}
use Rattle.golog_branch.proofs.CasesKeep.{all-at}
use Rattle.golog_branch.proofs.Linking.{flat-next, flat-one, linked-next, long-already, map-next}
use Rattle.golog_branch.proofs.planner.Planner.linked_level.Goals as goal

pub loop-spot-init : goal.loop-spot-init
loop-spot-init c =
    let empty = c.requires.empty in
    record {
      places = c.requires.places;
      spots = subst (All (IsSpot c.args.self.now.agent.now)) (sym empty) (All-nil (IsSpot c.args.self.now.agent.now));
      states_so = ap states_of empty;
      linked_so = subst (AllZip (IsLinked c.args.self.now.agent.now (states_of c.args.next.now.spots)) []) (sym c.new-level.ensures) tt;
      few = subst (λ (spots : List Spot). length spots ≤ c.args.room) (sym empty) (omega arith);
    }

pub linked-requires-clause-spot : goal.linked-requires-clause-spot
linked-requires-clause-spot c =
    all-at (IsSpot c.args.self.now.agent.now) c.args.spots.now c.loop-spot.spot-index c.spot-item.result (omega arith) c.spot-item.is c.requires.level

pub returns-then-len-room : goal.returns-then-len-room
returns-then-len-room c =
    let agent = c.args.self.now.agent.now in
    let spots = c.args.spots.now in
    let i = c.loop-spot.spot-index in
    let spot = c.spot-item.result in
    let old = states_of c.loop-spot.next.spots in
    let new = states_of c.linked.new.next.spots in
    let is = flat-next (next_states agent) [] old new (states_of (take i spots)) (state_of spot ∷ []) (states_of (take (i + 1) spots))
    c.loop-spot.invariant.states_so (flat-one (next_states agent) old new (state_of spot) c.in_ok-linked.ensures.states)
    (map-next state_of spots i spot (omega arith) c.spot-item.is) in
    let many : c.args.room < length new = let count = length-map c.linked.new.next.spots state_of in omega arith in
    long-already (next_states agent) state_of spots (i + 1) c.args.room (subst (λ (states : List State). c.args.room < length states) is many)

pub loop-spot-preserved : goal.loop-spot-preserved
loop-spot-preserved c =
    let agent = c.args.self.now.agent.now in
    let spots = c.args.spots.now in
    let i = c.loop-spot.spot-index in
    let spot = c.spot-item.result in
    let old = states_of c.loop-spot.next.spots in
    let new = states_of c.linked.new.next.spots in
    let inv = c.loop-spot.invariant in
    let made = c.in_ok-linked.ensures in
    let next = map-next state_of spots i spot (omega arith) c.spot-item.is in
    record {
      places = made.places;
      spots = made.spots;
      states_so = flat-next (next_states agent) [] old new (states_of (take i spots)) (state_of spot ∷ []) (states_of (take (i + 1) spots))
          inv.states_so (flat-one (next_states agent) old new (state_of spot) made.states) next;
      linked_so = linked-next agent old new (next_states agent (state_of spot)) (states_of (take i spots)) (states_of (take (i + 1) spots)) c.loop-spot.level c.push.new.self (state_of spot)
          c.in_ok-linked.linked made.states inv.linked_so made.linked next c.in_ok-push.ensures.ok;
      few = omega arith;
    }

pub returns : goal.returns
returns c =
    let spots = c.args.spots.now in
    let i = c.loop-spot.spot-index in
    let inv = c.loop-spot.invariant in
    let all : take i spots ≡ spots = take_all i spots (omega arith) in
    record {
      states_so = inv.states_so ∙ ap (λ (ss : List Spot). fold with_state [] (flat_map (next_states c.args.self.now.agent.now) (states_of ss))) all;
      spots = inv.spots;
      linked_so = subst (λ (ss : List Spot). AllZip (IsLinked c.args.self.now.agent.now (states_of c.loop-spot.next.spots)) (states_of ss) c.loop-spot.level) all inv.linked_so;
      few = inv.few;
    }
