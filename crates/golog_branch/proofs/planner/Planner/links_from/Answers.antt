use Rattle.std.proofs.Common.{◌≡◌, List, OnOk, IfOk, map, ◌∙◌, subst}
use Rattle.std.specs.Prelude.{filter, fold}
use Rattle.std.specs.List.{flat_map}
use Rattle.golog_tree.specs.declared.prog.Way.{Way}
use Rattle.golog_semantics.specs.declared.Mode.TheVariants.{Must}
use Rattle.golog_semantics.specs.Search.{is_followed}
use Rattle.golog_branch.specs.declared.spot.Link.{Link}
use Rattle.golog_branch.specs.Levels.{linked, states_of, way_led, with_state}
use Rattle.golog_branch.specs.Plans.{way_states}
use Rattle.golog_branch.proofs.CasesKeep.{ways-are}
use Rattle.golog_branch.proofs.planner.Planner.links_from.Goals as goal

pub links_of-links-requires-clause-ways : goal.links_of-links-requires-clause-ways
links_of-links-requires-clause-ways c =
    ways-are c.args.self.now.agent.now c.requires.agent c.args.left.now c.args.state.now c.requires.searched Must c.as_slice.result.now (c.as_slice.ensures ∙ c.in_ok-ways.ensures)

pub returns-clause-states : goal.returns-clause-states
returns-clause-states c =
    let after = states_of c.links_of-links.new.next.spots in
    subst (λ (ws : List Way). OnOk c.links_of-links.result (after ≡ fold with_state (states_of c.args.next.now.spots) (flat_map (way_states c.args.self.now.agent.now c.args.state.now) (filter is_followed ws))))
    (c.as_slice.ensures ∙ c.in_ok-ways.ensures) c.links_of-links.ensures.states

pub returns-clause-links : goal.returns-clause-links
returns-clause-links c =
    let after = states_of c.links_of-links.new.next.spots in
    subst (λ (ws : List Way). IfOk c.links_of-links.result (λ (links : List Link). map (linked after) links ≡ map (way_led c.args.self.now.agent.now c.args.state.now) (filter is_followed ws)))
    (c.as_slice.ensures ∙ c.in_ok-ways.ensures) c.links_of-links.ensures.links
