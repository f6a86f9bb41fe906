use Rattle.std.proofs.Common.{◌≡◌, ◌<◌, ℕ, List, [], ◌∷◌, length, Option, sym, ap, ◌∙◌, subst, arith}
use Rattle.std.specs.Prelude.{All, MatchOption, fold}
use Rattle.std.specs.List.{AllZip, flat_map}
use Rattle.std.proofs.lemmas.List.{length_push}
use Rattle.golog_tree.specs.declared.agent.Agent.{Agent}
use Rattle.golog_semantics.specs.Blocks.{State}
use Rattle.golog_branch.specs.declared.spot.Linked.{Linked}
use Rattle.golog_branch.specs.declared.spot.Spot.{Spot}
use Rattle.golog_branch.specs.Levels.{AreLevels, IsLinked, IsNextLevel, IsSpot, states_of, with_state}
use Rattle.golog_branch.specs.Plans.{next_states}
use Rattle.golog_branch.proofs.Distinct.{distinct-all}
use Rattle.golog_branch.proofs.Linking.{levels-push}
use Rattle.golog_branch.proofs.search.Search.deepen.Goals as goal

-- what is known of a level that is made
abbrev Made : Agent → List Spot → ℕ → List Spot → Option (List Linked) → Type 0
Made agent spots room next o = MatchOption o (room < length (fold with_state [] (flat_map (next_states agent) (states_of spots)))) (λ (level : List Linked). IsNextLevel agent (states_of spots) room level next)

pub linked_level-requires-clause-level : goal.linked_level-requires-clause-level
linked_level-requires-clause-level c =
    subst (All (IsSpot c.args.planner.now.agent.now)) (sym c.as_slice.ensures) c.requires.spots

pub returns-in_default-clause-further : goal.returns-in_default-clause-further
returns-in_default-clause-further c = λ p values n h.
    let agent = c.args.planner.now.agent.now in
    let states = ap states_of c.as_slice.ensures ∙ h.last in
    subst (λ (ss : List State). c.args.room < length ss)
    (ap (λ (ss : List State). fold with_state [] (flat_map (next_states agent) ss)) states ∙ distinct-all _) (subst (Made c.args.planner.now.agent.now c.as_slice.result.now c.args.room c.linked_level.new.next.spots) c.in_default.is c.in_ok-level.ensures)

pub returns-clause-further : goal.returns-clause-further
returns-clause-further c = λ p values n h.
    let agent = c.args.planner.now.agent.now in
    let self = c.args.self.now in
    let states = ap states_of c.as_slice.ensures ∙ h.last in
    let made : IsNextLevel agent (states_of c.as_slice.result.now) c.args.room c.in-Some.level c.linked_level.new.next.spots = subst (Made c.args.planner.now.agent.now c.as_slice.result.now c.args.room c.linked_level.new.next.spots) c.in-Some.is c.in_ok-level.ensures in
    let spots : c.into_spots-spots.result ≡ c.linked_level.new.next.spots = c.into_spots-spots.ensures in
    let replaced : c.replace.new.dest ≡ c.into_spots-spots.result = c.replace.ensures.after in
    let last : c.replace.new.dest ≡ c.linked_level.new.next.spots = replaced ∙ spots in
    let linked = subst (λ (ss : List Spot). AllZip (IsLinked agent (states_of ss)) (states_of c.as_slice.result.now) c.in-Some.level) (sym last) made.linked_so in
    let before : states_of c.as_slice.result.now ≡ states_of self.last = ap states_of c.as_slice.ensures in
    let all = subst (All (IsSpot agent)) (sym last) made.spots in
    let pushed = c.in_ok-push.ensures.ok in
    record {
      levels = subst (λ (ls : List (List Linked)). AreLevels agent ((p, values) ∷ []) ls c.replace.new.dest) (sym pushed)
          (levels-push agent ((p, values) ∷ []) self.levels self.last c.replace.new.dest c.in-Some.level h.levels
          (subst (λ (ss : List State). AllZip (IsLinked agent (states_of c.replace.new.dest)) ss c.in-Some.level) before linked) all);
      count = ap (λ (ls : List (List Linked)). length ls) pushed ∙ (let more = length_push self.levels c.in-Some.level in let count = h.count in omega arith);
      last = ap states_of last ∙ made.states_so ∙ ap (λ (ss : List State). fold with_state [] (flat_map (next_states agent) ss)) states ∙ distinct-all _;
    }

pub returns-clause-few : goal.returns-clause-few
returns-clause-few c = λ _.
    let made : IsNextLevel c.args.planner.now.agent.now (states_of c.as_slice.result.now) c.args.room c.in-Some.level c.linked_level.new.next.spots = subst (Made c.args.planner.now.agent.now c.as_slice.result.now c.args.room c.linked_level.new.next.spots) c.in-Some.is c.in_ok-level.ensures in
    let few = made.few in
    let e = ap (λ (ss : List Spot). length ss) (c.replace.ensures.after ∙ c.into_spots-spots.ensures) in
    omega arith

pub returns-clause-spots : goal.returns-clause-spots
returns-clause-spots c =
    let made : IsNextLevel c.args.planner.now.agent.now (states_of c.as_slice.result.now) c.args.room c.in-Some.level c.linked_level.new.next.spots = subst (Made c.args.planner.now.agent.now c.as_slice.result.now c.args.room c.linked_level.new.next.spots) c.in-Some.is c.in_ok-level.ensures in
    subst (All (IsSpot c.args.planner.now.agent.now)) (sym (c.replace.ensures.after ∙ c.into_spots-spots.ensures)) made.spots
