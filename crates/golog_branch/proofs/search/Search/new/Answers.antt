use Rattle.std.proofs.Common.{◌≡◌, List, [], ◌∷◌, ◌++◌, length, sym, ap, ◌∙◌, subst}
use Rattle.std.specs.Prelude.{All}
use Rattle.std.proofs.lemmas.List.Elements.{All-cons, All-nil}
use Rattle.golog_semantics.specs.Blocks.{State}
use Rattle.golog_branch.specs.declared.spot.Linked.{Linked}
use Rattle.golog_branch.specs.declared.spot.Spot.{Spot}
use Rattle.golog_branch.specs.Levels.{AreLevels, IsSpot, states_of}
use Rattle.golog_branch.proofs.search.Search.new.Goals as goal

pub returns : goal.returns
returns c =
    let agent = c.args.planner.now.agent.now in
    let start = c.in_ok-start.start in
    let one : c.push.new.self ≡ start ∷ [] = c.in_ok-push.ensures.ok ∙ ap (λ (ss : List Spot). ss ++ start ∷ []) c.new-last.ensures in
    let states : states_of c.push.new.self ≡ (c.args.prog.now, c.args.state.now) ∷ [] = ap states_of one ∙ ap (λ (s : State). s ∷ []) c.in_ok-start.ensures.state in
    record {
      levels = subst (λ (ls : List (List Linked)). AreLevels agent ((c.args.prog.now, c.args.state.now) ∷ []) ls c.push.new.self) (sym c.new-levels.ensures)
          (states, subst (All (IsSpot agent)) (sym one) (All-cons (IsSpot agent) start [] c.in_ok-start.ensures.so (All-nil (IsSpot agent))));
      count = ap (λ (ls : List (List Linked)). length ls) c.new-levels.ensures;
      last = states;
    }
