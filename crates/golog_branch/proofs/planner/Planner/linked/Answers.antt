use Rattle.std.proofs.Common.{map, sym, ap, ◌∙◌, subst}
use Rattle.std.specs.Prelude.{fold}
use Rattle.golog_semantics.specs.Truth.{Values}
use Rattle.golog_ways.specs.Searched.{IsSearched}
use Rattle.golog_branch.specs.Levels.{states_of, way_led, with_state}
use Rattle.golog_branch.specs.Plans.{followed, next_states}
use Rattle.golog_branch.proofs.planner.Planner.linked.Goals as goal

pub links_from-links-requires-clause-searched : goal.links_from-links-requires-clause-searched
links_from-links-requires-clause-searched c =
    subst (IsSearched c.args.self.now.agent.now c.args.spot.now.left) (sym c.in_ok-state.ensures) c.requires.spot.searched

pub returns-clause-states : goal.returns-clause-states
returns-clause-states c =
    c.in_ok-links.ensures.states
    ∙ ap (λ (vs : Values). fold with_state (states_of c.args.next.now.spots) (next_states c.args.self.now.agent.now (c.args.spot.now.left, vs))) c.in_ok-state.ensures

pub returns-clause-linked : goal.returns-clause-linked
returns-clause-linked c = record {
  ends = c.requires.spot.ends;
  links = c.in_ok-links.ensures.links
      ∙ ap (λ (vs : Values). map (way_led c.args.self.now.agent.now vs) (followed c.args.self.now.agent.now c.args.spot.now.left vs)) c.in_ok-state.ensures;
}
