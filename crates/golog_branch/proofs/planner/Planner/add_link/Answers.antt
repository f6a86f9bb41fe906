use Rattle.std.proofs.Common.{true, false, ◌++◌, map, sym, ap, ◌∙◌, arith}
use Rattle.std.specs.Prelude.{fold}
use Rattle.std.specs.List.{flat_map}
use Rattle.std.proofs.lemmas.Bool.{le-leb, lt-leb}
use Rattle.std.proofs.lemmas.List.{append-nil}
use Rattle.golog_tree.specs.Nest.{nest}
use Rattle.golog_semantics.specs.Search.{is_followed}
use Rattle.golog_branch.specs.Levels.{states_of, way_led, with_state}
use Rattle.golog_branch.specs.Plans.{way_states}
use Rattle.golog_branch.proofs.Linking.{filter-one, flat-one, links-next}
use Rattle.golog_branch.proofs.planner.Planner.add_link.Goals as goal

pub returns-then-nest-gt-NEST_LIMIT-clause-states : goal.returns-then-nest-gt-NEST_LIMIT-clause-states
returns-then-nest-gt-NEST_LIMIT-clause-states c =
    let way = c.args.way.now in
    let is = c.nest.ensures in
    let none = filter-one is_followed way false (lt-leb (nest way.left) 2048 (omega arith)) in
    ap (λ ws. fold with_state (states_of c.args.next.now.spots) (flat_map (way_states c.args.self.now.agent.now c.args.state.now) ws)) (sym none)

pub returns-then-nest-gt-NEST_LIMIT-clause-links : goal.returns-then-nest-gt-NEST_LIMIT-clause-links
returns-then-nest-gt-NEST_LIMIT-clause-links c = λ ws so.
    let way = c.args.way.now in
    let is = c.nest.ensures in
    let none = filter-one is_followed way false (lt-leb (nest way.left) 2048 (omega arith)) in
    so ∙ ap (map (way_led c.args.self.now.agent.now c.args.state.now)) (sym (ap (λ vs. ws ++ vs) none ∙ append-nil ws))

pub returns-clause-states : goal.returns-clause-states
returns-clause-states c =
    let way = c.args.way.now in
    let is = c.nest.ensures in
    let one = filter-one is_followed way true (le-leb (nest way.left) 2048 (omega arith)) in
    let old = states_of c.args.next.now.spots in
    flat-one (way_states c.args.self.now.agent.now c.args.state.now) old (states_of c.link.new.next.spots) way c.in_ok-link.ensures.states
    ∙ ap (λ ws. fold with_state old (flat_map (way_states c.args.self.now.agent.now c.args.state.now) ws)) (sym one)

pub returns-clause-links : goal.returns-clause-links
returns-clause-links c = λ ws so.
    let way = c.args.way.now in
    let is = c.nest.ensures in
    let one = filter-one is_followed way true (le-leb (nest way.left) 2048 (omega arith)) in
    links-next c.args.self.now.agent.now c.args.state.now (states_of c.args.next.now.spots) (states_of c.link.new.next.spots) (way_states c.args.self.now.agent.now c.args.state.now way) c.args.links.now c.push.new.self c.in_ok-link.link ws way
    c.in_ok-link.ensures.states c.in_ok-push.ensures.ok so c.in_ok-link.ensures.link
    ∙ ap (λ vs. map (way_led c.args.self.now.agent.now c.args.state.now) (ws ++ vs)) (sym one)
