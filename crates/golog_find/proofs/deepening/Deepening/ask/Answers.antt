use Rattle.std.proofs.Common.{◌≡◌, List, ℕ, sym, ap, ◌∙◌, subst, map}
use Rattle.std.specs.Prelude.{All}
use Rattle.std.proofs.lemmas.Result.{IfOk-weaker}
use Rattle.golog_semantics.specs.InSorts.{AreInSorts}
use Rattle.golog_ways.specs.declared.expand.Asked.{Asked}
use Rattle.golog_ways.specs.declared.expand.NumberedFront.{NumberedFront}
use Rattle.golog_ways.specs.Open.{AreChecked, open_places}
use Rattle.golog_find.specs.Batches.{places_at}
use Rattle.golog_find.proofs.deepening.Deepening.ask.Goals as goal

pub open-places-requires-clause-checked : goal.open-places-requires-clause-checked
open-places-requires-clause-checked g c =
    subst (All (λ (a : Asked). AreChecked c.args.self.now.agent.now a.fronts.now)) (sym c.as_slice.ensures) c.in_ok-asked.ensures.checked

pub open-places-requires-clause-sorts : goal.open-places-requires-clause-sorts
open-places-requires-clause-sorts g c =
    subst (All (λ (a : Asked). AreInSorts c.args.self.now.agent.now a.values.now)) (sym c.as_slice.ensures) c.in_ok-asked.ensures.sorts

pub returns : goal.returns
returns g c =
    let agent = c.args.self.now.agent.now in
    let m = c.args.self.now.mode in
    let told = λ (a : Asked). open_places agent a.values.now m (map (λ (f : NumberedFront). f.cond) a.fronts.now) in
    IfOk-weaker c.open-places.result (λ (all : List (List ℕ)). all ≡ map told c.as_slice.result.now) (λ (all : List (List ℕ)). all ≡ map (places_at agent m) c.args.sources.now)
    (λ all e. e ∙ ap (map told) c.as_slice.ensures ∙ c.in_ok-asked.ensures.places) c.open-places.ensures
