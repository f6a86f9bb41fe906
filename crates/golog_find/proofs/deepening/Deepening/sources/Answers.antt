use Rattle.std.proofs.Common.{◌≡◌, ◌<◌, ◌≤◌, false, List, [], ◌∷◌, ◌++◌, sym, ap, ◌∙◌, subst, length, map, arith}
use Rattle.std.specs.Prelude.{All}
use Rattle.std.proofs.lemmas.List.{map-append}
use Rattle.std.proofs.lemmas.List.Elements.{All-nil, All-push}
use Rattle.golog_ways.specs.Searched.{IsSearched}
use Rattle.golog_find.specs.declared.numbered.Numbered.{Numbered}
use Rattle.golog_find.specs.declared.sources.Source.{Source}
use Rattle.golog_find.specs.Batches.{IsSource, reached_of}
use Rattle.golog_find.specs.Levels.{Reached}
use Rattle.golog_find.specs.Rows.{lent}
use Rattle.golog_find.specs.Visits.{IsKeptOf, keeps}
use Rattle.golog_find.proofs.Batching.{if-some, part-more, part-none}
use Rattle.golog_find.proofs.Numbering.{at-place, meant-at, number-at}
use Rattle.golog_find.proofs.deepening.Deepening.sources.Goals as goal

pub loop-place-init : goal.loop-place-init
loop-place-init c =
    let none = c.new-sources.ensures in
    record {
      states = ap (map reached_of) none ∙ part-none c.args.states.now c.args.from;
      sources = subst (All (IsSource c.args.self.now.agent.now c.args.nodes.now)) (sym none) (All-nil (IsSource c.args.self.now.agent.now c.args.nodes.now));
    }

pub loop-place-preserved : goal.loop-place-preserved
loop-place-preserved c =
    let agent = c.args.self.now.agent.now in
    let nodes = c.args.nodes.now in
    let states = c.args.states.now in
    let from = c.args.from in
    let place = c.loop-place.place in
    let inv = c.loop-place.invariant in
    let n = lent c.at-reached.result in
    let s : Source = record { reached = c.at-reached.result; opened = c.of-opened.result } in
    let inside : place < length states = omega (arith, c.requires.inside, c.loop-place-test.true) in
    let behind : from ≤ place = omega arith in
    let is = at-place states place n c.at-reached.ensures in
    let added = c.in_ok-push.ensures.ok in
    record {
      states =
          ap (map reached_of) added ∙ map-append reached_of c.loop-place.sources (s ∷ [])
          ∙ ap (λ (ns : List Numbered). ns ++ n ∷ []) inv.states ∙ sym (part-more states from place n behind inside is);
      sources =
          subst (All (IsSource agent nodes)) (sym added)
          (All-push (IsSource agent nodes) c.loop-place.sources s inv.sources
          (record {
            number = number-at nodes states place n inside is c.requires.numbers;
            searched = meant-at nodes states place n inside is (λ (r : Reached). IsSearched agent r.way.left r.state) c.requires.searched;
            kept = if-some c.of-opened.result (keeps c.args.visits.now n.left ≡ false) (λ z. IsKeptOf agent nodes n.left z.now) (c.of-opened.ensures agent nodes c.requires.kept);
          }));
    }
