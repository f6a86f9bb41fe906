use Rattle.std.proofs.Common.{◌≡◌, ℕ, List, sym, ap, ◌∙◌, subst, fold, map}
use Rattle.std.specs.Prelude.{IfSome, MatchOption, Some, slice_get}
use Rattle.std.proofs.lemmas.Option.{slice_get_within}
use Rattle.std.proofs.lemmas.Result.{on_ok_weaker}
use Rattle.golog_semantics.specs.Search.{plain_ways}
use Rattle.golog_semantics.proofs.GroundNumbers.{some-same}
use Rattle.golog_ways.specs.declared.expand.NumberedFront.{NumberedFront}
use Rattle.golog_ways.specs.Open.{open_places}
use Rattle.golog_ways.specs.Searched.{IsSearched}
use Rattle.golog_find.specs.Batches.{ways_at}
use Rattle.golog_find.specs.Levels.{with_stored}
use Rattle.golog_find.specs.Numbers.{level_of}
use Rattle.golog_find.specs.Visits.{IsKeptOf, prog_at}
use Rattle.golog_find.proofs.deepening.Deepening.add_steps.Goals as goal

pub list_at-places-requires : goal.list_at-places-requires
list_at-places-requires c =
    let agent = c.args.self.now.agent.now in
    let m = c.args.self.now.mode in
    let s = c.args.source.now in
    let told = c.args.told.now in
    let turn = c.args.turn in
    let values = s.reached.values.now in
    let at : slice_get told.places turn.at ≡ Some (open_places agent values m (map (λ (f : NumberedFront). f.cond) c.in-Some.opened.now.fronts)) =
    subst (λ o. MatchOption o (slice_get told.listed turn.used ≡ Some (ways_at agent m c.args.nodes.now s)) (λ z. slice_get told.places turn.at ≡ Some (open_places agent values m (map (λ (f : NumberedFront). f.cond) z.now.fronts))))
    c.in-Some.is c.requires.told in
    slice_get_within told.places turn.at _ at

pub add_fronts-requires-clause-places : goal.add_fronts-requires-clause-places
add_fronts-requires-clause-places c =
    let agent = c.args.self.now.agent.now in
    let m = c.args.self.now.mode in
    let s = c.args.source.now in
    let told = c.args.told.now in
    let turn = c.args.turn in
    let values = s.reached.values.now in
    let open_ones : List ℕ = open_places agent values m (map (λ (f : NumberedFront). f.cond) c.in-Some.opened.now.fronts) in
    let at : slice_get told.places turn.at ≡ Some open_ones =
    subst (λ o. MatchOption o (slice_get told.listed turn.used ≡ Some (ways_at agent m c.args.nodes.now s)) (λ z. slice_get told.places turn.at ≡ Some (open_places agent values m (map (λ (f : NumberedFront). f.cond) z.now.fronts))))
    c.in-Some.is c.requires.told in
    some-same c.list_at-places.result.now open_ones (sym c.list_at-places.ensures ∙ at)

pub add_fronts-requires-clause-opened : goal.add_fronts-requires-clause-opened
add_fronts-requires-clause-opened c =
    let agent = c.args.self.now.agent.now in
    let nodes = c.args.nodes.now in
    let left = c.args.source.now.reached.left in
    let kept : IsKeptOf agent nodes left c.in-Some.opened.now = subst (λ o. IfSome o (λ z. IsKeptOf agent nodes left z.now)) c.in-Some.is c.requires.source.kept in
    kept.opened

pub add_fronts-requires-clause-searched : goal.add_fronts-requires-clause-searched
add_fronts-requires-clause-searched c =
    let agent = c.args.self.now.agent.now in
    let nodes = c.args.nodes.now in
    let reached = c.args.source.now.reached in
    let kept : IsKeptOf agent nodes reached.left c.in-Some.opened.now = subst (λ o. IfSome o (λ z. IsKeptOf agent nodes reached.left z.now)) c.in-Some.is c.requires.source.kept in
    subst (λ (number : ℕ). IsSearched agent (prog_at nodes number) reached.values.now) (sym kept.same) c.requires.source.searched

pub add_fronts-requires-clause-effects : goal.add_fronts-requires-clause-effects
add_fronts-requires-clause-effects c = c.requires.effects

pub returns-in-Some-clause-means : goal.returns-in-Some-clause-means
returns-in-Some-clause-means c =
    let agent = c.args.self.now.agent.now in
    let m = c.args.self.now.mode in
    let nodes = c.args.nodes.now in
    let reached = c.args.source.now.reached in
    let values = reached.values.now in
    let kept : IsKeptOf agent nodes reached.left c.in-Some.opened.now = subst (λ o. IfSome o (λ z. IsKeptOf agent nodes reached.left z.now)) c.in-Some.is c.requires.source.kept in
    let led = λ (number : ℕ). fold (with_stored agent m c.args.self.now.room c.args.turn.place values) (level_of nodes c.args.level.now) (plain_ways agent values m (prog_at nodes number)) in
    on_ok_weaker c.add_fronts.result (λ (e : level_of nodes c.add_fronts.new.level ≡ led c.in-Some.opened.now.prog). e ∙ ap led kept.same) c.add_fronts.ensures.means

pub list_at-ways-requires : goal.list_at-ways-requires
list_at-ways-requires c =
    let agent = c.args.self.now.agent.now in
    let m = c.args.self.now.mode in
    let s = c.args.source.now in
    let told = c.args.told.now in
    let turn = c.args.turn in
    let at : slice_get told.listed turn.used ≡ Some (ways_at agent m c.args.nodes.now s) =
    subst (λ o. MatchOption o (slice_get told.listed turn.used ≡ Some (ways_at agent m c.args.nodes.now s)) (λ z. slice_get told.places turn.at ≡ Some (open_places agent s.reached.values.now m (map (λ (f : NumberedFront). f.cond) z.now.fronts))))
    c.in-None.is c.requires.told in
    slice_get_within told.listed turn.used _ at

pub add_ways-requires-clause-ways : goal.add_ways-requires-clause-ways
add_ways-requires-clause-ways c =
    let agent = c.args.self.now.agent.now in
    let m = c.args.self.now.mode in
    let s = c.args.source.now in
    let told = c.args.told.now in
    let turn = c.args.turn in
    let at : slice_get told.listed turn.used ≡ Some (ways_at agent m c.args.nodes.now s) =
    subst (λ o. MatchOption o (slice_get told.listed turn.used ≡ Some (ways_at agent m c.args.nodes.now s)) (λ z. slice_get told.places turn.at ≡ Some (open_places agent s.reached.values.now m (map (λ (f : NumberedFront). f.cond) z.now.fronts))))
    c.in-None.is c.requires.told in
    some-same c.list_at-ways.result.now (ways_at agent m c.args.nodes.now s) (sym c.list_at-ways.ensures ∙ at)

pub add_ways-requires-clause-searched : goal.add_ways-requires-clause-searched
add_ways-requires-clause-searched c = c.requires.source.searched
