use Rattle.std.proofs.Common.{ℕ, ◌<◌, ◌+◌, List, refl, sym, ap, ◌∙◌, subst, drop, fold, length, map, arith}
use Rattle.std.specs.Prelude.{All, slice_index}
use Rattle.std.proofs.lemmas.List.{at_drop_all}
use Rattle.std.proofs.lemmas.List.Elements.{All-get_or}
use Rattle.std.proofs.lemmas.Option.{slice_get_within}
use Rattle.golog_semantics.proofs.ByParts.{OfEach}
use Rattle.golog_ways.specs.declared.expand.NumberedFront.{NumberedFront}
use Rattle.golog_ways.proofs.OpenSteps.{open-below}
use Rattle.golog_ways.proofs.SearchedWays.{WayStays, ways_stay}
use Rattle.golog_find.specs.Levels.{Level, with_stored}
use Rattle.golog_find.specs.Numbers.{level_of}
use Rattle.golog_find.specs.Visits.{prog_at}
use Rattle.golog_find.proofs.Numbering.{at-place}
use Rattle.golog_find.proofs.OpenFronts.{first-way, opened-ways, way_at}
use Rattle.golog_find.proofs.Visiting.{front-fits}
use Rattle.golog_find.proofs.deepening.Deepening.add_fronts.Goals as goal

pub front_at-front-requires-clause-inside : goal.front_at-front-requires-clause-inside
front_at-front-requires-clause-inside c =
    let agent = c.args.self.now.agent.now in
    let fs = c.args.opened.now.fronts in
    let places = c.args.places.now in
    let below : c.loop-at.at < length places = omega arith in
    All-get_or (λ (n : ℕ). n < length fs) places c.loop-at.at 0 below
    (subst (All (λ (n : ℕ). n < length fs)) (sym c.requires.places) (open-below agent c.args.values.now c.args.self.now.mode (λ (f : NumberedFront). f.cond) fs))

pub add_front-requires-clause-front : goal.add_front-requires-clause-front
add_front-requires-clause-front c =
    let nodes = c.args.nodes.now in
    let fs = c.args.opened.now.fronts in
    let f = c.front_at-front.result.now in
    let n = slice_index c.args.places.now c.loop-at.at in
    let opened = c.requires.opened.fronts in
    (front-fits nodes c.args.self.now.agent.now fs n f (slice_get_within fs n f c.front_at-front.ensures) (at-place fs n f c.front_at-front.ensures) opened.numbered opened.agents).0

pub add_front-requires-clause-agents : goal.add_front-requires-clause-agents
add_front-requires-clause-agents c =
    let nodes = c.args.nodes.now in
    let fs = c.args.opened.now.fronts in
    let f = c.front_at-front.result.now in
    let n = slice_index c.args.places.now c.loop-at.at in
    let opened = c.requires.opened.fronts in
    (front-fits nodes c.args.self.now.agent.now fs n f (slice_get_within fs n f c.front_at-front.ensures) (at-place fs n f c.front_at-front.ensures) opened.numbered opened.agents).1

pub add_front-requires-clause-searched : goal.add_front-requires-clause-searched
add_front-requires-clause-searched c =
    let agent = c.args.self.now.agent.now in
    let nodes = c.args.nodes.now in
    let places = c.args.places.now in
    let below : c.loop-at.at < length places = omega arith in
    let first = first-way nodes c.args.opened.now.fronts places c.loop-at.at c.front_at-front.result.now below c.front_at-front.ensures in
    let stays = (subst (OfEach (WayStays agent)) first c.loop-at.invariant.2).0 in
    record { program = stays.left_fits; blockless = stays.left_free; sorts = c.requires.searched.sorts }

pub add_front-requires-clause-level : goal.add_front-requires-clause-level
add_front-requires-clause-level c = c.loop-at.invariant.1

pub loop-at-init : goal.loop-at-init
loop-at-init c =
    let agent = c.args.self.now.agent.now in
    let nodes = c.args.nodes.now in
    let opened = c.args.opened.now in
    let values = c.args.values.now in
    let m = c.args.self.now.mode in
    let steps = map (way_at nodes opened.fronts) c.args.places.now in
    let ways = opened-ways nodes opened.fronts c.args.places.now agent values m c.requires.places ∙ c.requires.opened.fronts.fronts.ways m values in (
      refl {a = fold (with_stored agent m c.args.self.now.room c.args.from values) (level_of nodes c.args.level.now) steps},
      c.requires.level,
      subst (OfEach (WayStays agent)) (sym ways) (ways_stay agent c.requires.agent (prog_at nodes opened.prog) values c.requires.searched m),
    )

pub loop-at-preserved : goal.loop-at-preserved
loop-at-preserved c =
    let agent = c.args.self.now.agent.now in
    let nodes = c.args.nodes.now in
    let fs = c.args.opened.now.fronts in
    let places = c.args.places.now in
    let at = c.loop-at.at in
    let below : at < length places = omega arith in
    let step = with_stored agent c.args.self.now.mode c.args.self.now.room c.args.from c.args.values.now in
    let first = first-way nodes fs places at c.front_at-front.result.now below c.front_at-front.ensures in
    let inv = c.loop-at.invariant in
    let done = c.in_ok-add_front.ensures in (
      inv.0
          ∙ ap (fold step (level_of nodes c.loop-at.level)) first
          ∙ ap (λ (l : Level). fold step l (map (way_at nodes fs) (drop (at + 1) places))) (sym done.means),
      done.level,
      (subst (OfEach (WayStays agent)) first inv.2).1,
    )

pub returns-clause-means : goal.returns-clause-means
returns-clause-means c =
    let agent = c.args.self.now.agent.now in
    let nodes = c.args.nodes.now in
    let opened = c.args.opened.now in
    let values = c.args.values.now in
    let m = c.args.self.now.mode in
    let step = with_stored agent m c.args.self.now.room c.args.from values in
    let end = level_of nodes c.loop-at.level in
    let ways = opened-ways nodes opened.fronts c.args.places.now agent values m c.requires.places ∙ c.requires.opened.fronts.fronts.ways m values in
    sym (c.loop-at.invariant.0 ∙ at_drop_all (λ (ns : List ℕ). fold step end (map (way_at nodes opened.fronts) ns)) c.args.places.now c.loop-at.at (omega arith))
    ∙ ap (fold step (level_of nodes c.args.level.now)) ways
