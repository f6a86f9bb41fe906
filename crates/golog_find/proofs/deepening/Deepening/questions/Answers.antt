use Rattle.std.proofs.Common.{◌≡◌, ◌<◌, List, ℕ, [], ◌∷◌, ◌++◌, sym, ap, ◌∙◌, subst, length, map, take, arith}
use Rattle.std.specs.Prelude.{All}
use Rattle.std.proofs.lemmas.List.{map-append, take_all}
use Rattle.std.proofs.lemmas.List.Elements.{All-get_or, All-nil, All-push}
use Rattle.golog_semantics.specs.InSorts.{AreInSorts}
use Rattle.golog_ways.specs.declared.expand.Asked.{Asked}
use Rattle.golog_ways.specs.declared.expand.NumberedFront.{NumberedFront}
use Rattle.golog_ways.specs.Open.{AreChecked, open_places}
use Rattle.golog_find.specs.declared.sources.Source.{Source}
use Rattle.golog_find.specs.Batches.{IsSource, places_at}
use Rattle.golog_find.proofs.Batching.{source-checked, take-next}
use Rattle.golog_find.proofs.Numbering.{at-place}
use Rattle.golog_find.proofs.deepening.Deepening.questions.Goals as goal

pub loop-at-init : goal.loop-at-init
loop-at-init c =
    let agent = c.args.self.now.agent.now in
    let none = sym c.new-asked.ensures in
    let Checked = λ (a : Asked). AreChecked agent a.fronts.now in
    let Sorted = λ (a : Asked). AreInSorts agent a.values.now in
    record {
      checked = subst (All Checked) none (All-nil Checked);
      sorts = subst (All Sorted) none (All-nil Sorted);
      places = ap (map (λ (a : Asked). open_places agent a.values.now c.args.self.now.mode (map (λ (f : NumberedFront). f.cond) a.fronts.now))) c.new-asked.ensures;
    }

pub loop-at-preserved : goal.loop-at-preserved
loop-at-preserved c =
    let agent = c.args.self.now.agent.now in
    let m = c.args.self.now.mode in
    let nodes = c.args.nodes.now in
    let sources = c.args.sources.now in
    let at = c.loop-at.at in
    let asked = c.loop-at.asked in
    let inv = c.loop-at.invariant in
    let s = c.source_at-source.result.now in
    let a = c.asked_of.result in
    let below : at < length sources = omega arith in
    let is = at-place sources at s c.source_at-source.ensures in
    let own : IsSource agent nodes s = subst (IsSource agent nodes) (sym is) (All-get_or (IsSource agent nodes) sources at s below c.requires) in
    let Checked = λ (q : Asked). AreChecked agent q.fronts.now in
    let Sorted = λ (q : Asked). AreInSorts agent q.values.now in
    let told = λ (q : Asked). open_places agent q.values.now m (map (λ (f : NumberedFront). f.cond) q.fronts.now) in
    let same : told a ≡ places_at agent m s = (λ i. open_places agent (c.asked_of.ensures.values i) m (map (λ (f : NumberedFront). f.cond) (c.asked_of.ensures.fronts i))) in
    let added = c.in_ok-push.ensures.ok in
    record {
      checked = subst (All Checked) (sym added) (All-push Checked asked a inv.checked (subst (AreChecked agent) (sym c.asked_of.ensures.fronts) (source-checked agent nodes s own)));
      sorts = subst (All Sorted) (sym added) (All-push Sorted asked a inv.sorts (subst (AreInSorts agent) (sym c.asked_of.ensures.values) own.searched.sorts));
      places =
          ap (map told) added ∙ map-append told asked (a ∷ [])
          ∙ (λ i. inv.places i ++ same i ∷ [])
          ∙ sym (ap (map (places_at agent m)) (take-next sources at s below is) ∙ map-append (places_at agent m) (take at sources) (s ∷ []));
    }

pub returns-clause-places : goal.returns-clause-places
returns-clause-places c =
    c.loop-at.invariant.places
    ∙ ap (λ (ss : List Source). map (places_at c.args.self.now.agent.now c.args.self.now.mode) ss) (take_all c.loop-at.at c.args.sources.now (omega arith))
