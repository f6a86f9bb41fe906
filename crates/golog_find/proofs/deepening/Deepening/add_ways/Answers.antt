use Rattle.std.proofs.Common.{◌+◌, refl, sym, ap, ◌∙◌, subst, drop, fold, arith}
use Rattle.std.proofs.lemmas.List.{at_drop_all}
use Rattle.golog_semantics.proofs.ByParts.{OfEach}
use Rattle.golog_find.specs.Levels.{Level, with_stored}
use Rattle.golog_find.specs.Numbers.{level_of}
use Rattle.golog_find.specs.Visits.{prog_at}
use Rattle.golog_find.proofs.Numbering.{each-at, fold-at, goes_on-further, goes_on-same}
use Rattle.golog_ways.proofs.SearchedWays.{WayStays, ways_stay}
use Rattle.golog_find.proofs.deepening.Deepening.add_ways.Goals as goal

pub loop-way-init : goal.loop-way-init
loop-way-init c =
    let agent = c.args.self.now.agent.now in
    let nodes = c.args.nodes.now in
    let reached = c.args.source.now.reached in (
      refl,
      c.requires.level,
      goes_on-same nodes,
      subst (OfEach (WayStays agent)) (sym c.requires.ways) (ways_stay agent c.requires.agent (prog_at nodes reached.left) reached.values.now c.requires.searched c.args.self.now.mode),
    )

pub add-requires-clause-searched : goal.add-requires-clause-searched
add-requires-clause-searched c =
    let stays = (each-at (WayStays c.args.self.now.agent.now) c.args.ways.now c.loop-way.way-index c.way-item.result c.loop-way-test.true c.way-item.is c.loop-way.invariant.3).0 in
    record { program = stays.left_fits; blockless = stays.left_free; sorts = c.requires.searched.sorts }

pub add-requires-clause-label : goal.add-requires-clause-label
add-requires-clause-label c =
    (each-at (WayStays c.args.self.now.agent.now) c.args.ways.now c.loop-way.way-index c.way-item.result c.loop-way-test.true c.way-item.is c.loop-way.invariant.3).0.label_fits

pub add-requires-clause-level : goal.add-requires-clause-level
add-requires-clause-level c = c.loop-way.invariant.1

pub loop-way-preserved : goal.loop-way-preserved
loop-way-preserved c =
    let agent = c.args.self.now.agent.now in
    let ways = c.args.ways.now in
    let i = c.loop-way.way-index in
    let way = c.way-item.result in
    let f = with_stored agent c.args.self.now.mode c.args.self.now.room c.args.from c.args.source.now.reached.values.now in
    let inv = c.loop-way.invariant in (
      inv.0 ∙ fold-at f (level_of c.loop-way.nodes c.loop-way.level) ways i way c.loop-way-test.true c.way-item.is ∙ ap (λ (l : Level). fold f l (drop (i + 1) ways)) (sym c.in_ok-add.ensures.means),
      c.in_ok-add.ensures.level,
      goes_on-further c.args.nodes.now c.loop-way.nodes c.add.new.nodes inv.2 c.in_ok-add.ensures.goes_on,
      (each-at (WayStays agent) ways i way c.loop-way-test.true c.way-item.is inv.3).1,
    )

pub returns-clause-means : goal.returns-clause-means
returns-clause-means c =
    let f = with_stored c.args.self.now.agent.now c.args.self.now.mode c.args.self.now.room c.args.from c.args.source.now.reached.values.now in
    let start = level_of c.args.nodes.now c.args.level.now in
    let end = level_of c.loop-way.nodes c.loop-way.level in
    sym (c.loop-way.invariant.0 ∙ at_drop_all (fold f end) c.args.ways.now c.loop-way.way-index (omega arith)) ∙ ap (fold f start) c.requires.ways
