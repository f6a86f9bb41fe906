use Rattle.std.proofs.Common.{◌≡◌, List, [], ◌∷◌, ◌++◌, Some, sym, ap, ◌∙◌, subst, arith}
use Rattle.std.specs.Prelude.{All, slice_get}
use Rattle.std.proofs.lemmas.List.{length-map, map-append}
use Rattle.std.proofs.lemmas.List.Elements.{All-push}
use Rattle.golog_semantics.specs.Blocks.{State}
use Rattle.golog_semantics.proofs.GroundNumbers.{slice_get-right}
use Rattle.golog_branch.specs.declared.spot.Spot.{Spot}
use Rattle.golog_branch.specs.Levels.{IsSpot, state_of, states_of}
use Rattle.golog_branch.specs.Places.{spot_hash}
use Rattle.golog_branch.proofs.Placed.{found, missing, numbers-stay, sees-more}
use Rattle.golog_branch.proofs.places.Reached.place.Goals as goal

pub find-requires-clause-seen : goal.find-requires-clause-seen
find-requires-clause-seen c = c.requires.places.seen

pub find-requires-clause-hash : goal.find-requires-clause-hash
find-requires-clause-hash c = c.hash_of-hash.ensures ∙ ap (spot_hash c.in_ok-number.number) c.values.ensures

pub returns-in-Some-clause-places : goal.returns-in-Some-clause-places
returns-in-Some-clause-places c =
    let old = c.args.self.now in
    record {
      once = c.in_ok-number.ensures.once;
      numbers = numbers-stay old.nodes c.number.new.self c.args.left.now old.spots c.in_ok-number.ensures.ok c.requires.places.numbers;
      seen = c.requires.places.seen;
    }

pub returns-in-Some-clause-states : goal.returns-in-Some-clause-states
returns-in-Some-clause-states c =
    let old = c.args.self.now in
    let numbers = numbers-stay old.nodes c.number.new.self c.args.left.now old.spots c.in_ok-number.ensures.ok c.requires.places.numbers in
    (found c.number.new.self c.in_ok-number.ensures.once c.args.left.now c.in_ok-number.number c.args.state.now c.in_ok-number.ensures.number old.spots numbers c.in-Some.place c.in-Some.ensures).1

pub returns-in-Some-clause-place : goal.returns-in-Some-clause-place
returns-in-Some-clause-place c =
    let old = c.args.self.now in
    let numbers = numbers-stay old.nodes c.number.new.self c.args.left.now old.spots c.in_ok-number.ensures.ok c.requires.places.numbers in
    (found c.number.new.self c.in_ok-number.ensures.once c.args.left.now c.in_ok-number.number c.args.state.now c.in_ok-number.ensures.number old.spots numbers c.in-Some.place c.in-Some.ensures).0

pub returns-clause-places : goal.returns-clause-places
returns-clause-places c =
    let old = c.args.self.now in
    let spot = c.in_ok-spot.spot in
    let state : state_of spot ≡ (c.args.left.now, c.args.state.now) = c.in_ok-spot.ensures.state in
    let number : spot.number ≡ c.in_ok-number.number = c.in_ok-spot.ensures.number in
    let numbers = numbers-stay old.nodes c.number.new.self c.args.left.now old.spots c.in_ok-number.ensures.ok c.requires.places.numbers in
    let own : slice_get c.number.new.self spot.number ≡ Some spot.left =
    ap (slice_get c.number.new.self) number ∙ c.in_ok-number.ensures.number ∙ ap Some (sym (ap (λ (s : State). s.0) state)) in
    let values = c.values.ensures ∙ sym (ap (λ (s : State). s.1) state) in
    let hash : c.hash_of-hash.result ≡ spot_hash spot.number spot.state = c.hash_of-hash.ensures ∙ (λ i. spot_hash (sym number i) (values i)) in
    let pushed = c.in_ok-push.ensures.ok in
    record {
      once = c.in_ok-number.ensures.once;
      numbers = subst (All (λ (s : Spot). slice_get c.number.new.self s.number ≡ Some s.left)) (sym pushed)
          (All-push (λ (s : Spot). slice_get c.number.new.self s.number ≡ Some s.left) old.spots spot numbers own);
      seen = sees-more old.seen c.add.new.self old.spots c.push.new.self spot c.hash_of-hash.result c.len-place.result c.requires.places.seen pushed hash c.len-place.ensures c.in_ok-add.ensures.ok;
    }

pub returns-clause-spots : goal.returns-clause-spots
returns-clause-spots c =
    subst (All (IsSpot c.args.planner.now.agent.now)) (sym c.in_ok-push.ensures.ok)
    (All-push (IsSpot c.args.planner.now.agent.now) c.args.self.now.spots c.in_ok-spot.spot c.requires.spots c.in_ok-spot.ensures.so)

pub returns-clause-states : goal.returns-clause-states
returns-clause-states c =
    let old = c.args.self.now in
    let spot = c.in_ok-spot.spot in
    let numbers = numbers-stay old.nodes c.number.new.self c.args.left.now old.spots c.in_ok-number.ensures.ok c.requires.places.numbers in
    ap states_of c.in_ok-push.ensures.ok ∙ map-append state_of old.spots (spot ∷ [])
    ∙ ap (λ (s : State). states_of old.spots ++ s ∷ []) c.in_ok-spot.ensures.state
    ∙ missing c.number.new.self c.in_ok-number.ensures.once c.args.left.now c.in_ok-number.number c.args.state.now c.in_ok-number.ensures.number old.spots numbers c.in_default.ensures

pub returns-clause-place : goal.returns-clause-place
returns-clause-place c =
    let old = c.args.self.now in
    let spot = c.in_ok-spot.spot in
    let count = length-map old.spots state_of in
    let last = c.len-place.ensures in
    ap (λ (spots : List Spot). slice_get (states_of spots) c.len-place.result) c.in_ok-push.ensures.ok
    ∙ ap (λ (states : List State). slice_get states c.len-place.result) (map-append state_of old.spots (spot ∷ []))
    ∙ slice_get-right (states_of old.spots) (state_of spot ∷ []) c.len-place.result 0 (omega arith)
    ∙ ap Some c.in_ok-spot.ensures.state
