use Rattle.std.proofs.Common.{[], ◌∷◌, map, take, ◌+◌, sym, ap, ◌∙◌, arith}
use Rattle.std.specs.Prelude.{filter}
use Rattle.golog_semantics.specs.Search.{is_followed}
use Rattle.golog_branch.specs.Levels.{IsWay, states_of, way_led}
use Rattle.golog_branch.specs.Plans.{way_states}
use Rattle.golog_branch.proofs.CasesKeep.{all-at}
use Rattle.golog_branch.proofs.Linking.{filter-next, flat-next}
use Rattle.golog_branch.proofs.planner.Planner.links_of.Goals as goal

pub add_link-requires-clause-way : goal.add_link-requires-clause-way
add_link-requires-clause-way c =
    all-at (IsWay c.args.self.now.agent.now) c.args.ways.now c.loop-way.way-index c.way-item.result (omega arith) c.way-item.is c.requires.ways

pub loop-way-preserved : goal.loop-way-preserved
loop-way-preserved c =
    let agent = c.args.self.now.agent.now in
    let state = c.args.state.now in
    let ways = c.args.ways.now in
    let i = c.loop-way.way-index in
    let way = c.way-item.result in
    let inv = c.loop-way.invariant in
    let added = c.in_ok-add_link.ensures in
    let next = filter-next is_followed ways i way (omega arith) c.way-item.is in
    record {
      places = added.places;
      spots = added.spots;
      states = flat-next (way_states agent state) (states_of c.args.next.now.spots) (states_of c.loop-way.next.spots) (states_of c.add_link.new.next.spots)
          (filter is_followed (take i ways)) (filter is_followed (way ∷ [])) (filter is_followed (take (i + 1) ways)) inv.states added.states next;
      links = added.links (filter is_followed (take i ways)) inv.links ∙ ap (map (way_led agent state)) (sym next);
    }
