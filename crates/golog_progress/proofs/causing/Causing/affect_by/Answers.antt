use Rattle.std.proofs.Common.{◌≡◌, ◌<◌, [], length, get_or, sym, ap, ◌∙◌, subst, Some, None, arith}
use Rattle.std.specs.Prelude.{slice_get}
use Rattle.golog_tree.specs.Ground.{sizes, product}
use Rattle.golog_semantics.specs.Values.{matched_values}
use Rattle.golog_progress.specs.Effects.{HeadFits, IsSpread, effect_in}
use Rattle.golog_progress.proofs.Affected.{cause_is, given_few, head_after, item_is, affected, unaffected}
use Rattle.golog_progress.proofs.Placed.{item-at, fluent_of}
use Rattle.golog_progress.proofs.causing.Causing.affect_by.Goals as goal

pub bound_by-requires : goal.bound_by-requires
bound_by-requires c =
    let few = given_few c.args.self.now.agent.now c.args.self.now.cause.now c.requires.agent c.requires.cause c.args.args.now c.requires.args c.args.given.now c.args.free.now c.requires.head c.requires.even in
    rw c.new.ensures (omega (arith, few))

pub bounds-as_slice-cause : goal.bounds-as_slice-cause
bounds-as_slice-cause c =
    subst (λ xs. c.args.self.now.cause.now.fluent < length xs) (sym c.as_slice.ensures) (cause_is c.args.self.now.agent.now c.args.self.now.cause.now c.requires.agent c.requires.cause).inside

pub places_of-places-requires-clause-fluent : goal.places_of-places-requires-clause-fluent
places_of-places-requires-clause-fluent c = (cause_is c.args.self.now.agent.now c.args.self.now.cause.now c.requires.agent c.requires.cause).inside

pub spread-requires-clause-head : goal.spread-requires-clause-head
spread-requires-clause-head c =
    let item = c.index-as_slice-cause.result in
    let at : slice_get c.args.self.now.agent.now.fluents c.args.self.now.cause.now.fluent ≡ Some item =
    item-at c.args.self.now.agent.now.fluents c.args.self.now.cause.now.fluent item (cause_is c.args.self.now.agent.now c.args.self.now.cause.now c.requires.agent c.requires.cause).inside (subst (λ xs. item ≡ get_or xs c.args.self.now.cause.now.fluent item) c.as_slice.ensures c.index-as_slice-cause.is) in
    let sorts : c.as_slice-sorts.result.now ≡ (cause_is c.args.self.now.agent.now c.args.self.now.cause.now c.requires.agent c.requires.cause).fluent.args =
    c.as_slice-sorts.ensures ∙ ap (λ i. i.args) (sym c.index-as_slice-cause.is)
    ∙ item_is c.args.self.now.agent.now c.args.self.now.cause.now c.requires.agent c.requires.cause c.args.args.now c.requires.args c.args.given.now c.args.free.now c.requires.head c.requires.even item at in
    let m : matched_values c.args.given.now c.args.args.now [] ≡ Some c.in-Some.found = sym (c.in-Some.ensures ∙ ap (matched_values c.args.given.now c.args.args.now) c.new.ensures) in
    subst (λ ss. HeadFits c.args.self.now.agent.now c.args.self.now.cause.now ss c.args.free.now c.in-Some.found) (sym sorts)
    (head_after c.args.self.now.agent.now c.args.self.now.cause.now c.requires.agent c.requires.cause c.args.args.now c.requires.args c.args.given.now c.args.free.now c.requires.head c.requires.even c.in-Some.found m)

pub spread-requires-clause-count : goal.spread-requires-clause-count
spread-requires-clause-count c =
    let item = c.index-as_slice-cause.result in
    let at : slice_get c.args.self.now.agent.now.fluents c.args.self.now.cause.now.fluent ≡ Some item =
    item-at c.args.self.now.agent.now.fluents c.args.self.now.cause.now.fluent item (cause_is c.args.self.now.agent.now c.args.self.now.cause.now c.requires.agent c.requires.cause).inside (subst (λ xs. item ≡ get_or xs c.args.self.now.cause.now.fluent item) c.as_slice.ensures c.index-as_slice-cause.is) in
    let sorts : c.as_slice-sorts.result.now ≡ (cause_is c.args.self.now.agent.now c.args.self.now.cause.now c.requires.agent c.requires.cause).fluent.args =
    c.as_slice-sorts.ensures ∙ ap (λ i. i.args) (sym c.index-as_slice-cause.is)
    ∙ item_is c.args.self.now.agent.now c.args.self.now.cause.now c.requires.agent c.requires.cause c.args.args.now c.requires.args c.args.given.now c.args.free.now c.requires.head c.requires.even item at in
    let f = fluent_of c.args.self.now.agent.now c.requires.agent c.args.self.now.cause.now.fluent item (cause_is c.args.self.now.agent.now c.args.self.now.cause.now c.requires.agent c.requires.cause).inside at in
    c.places_of-places.ensures.count_is ∙ ap (λ ss. product (sizes c.args.self.now.agent.now ss)) (f.args ∙ ap (λ i. i.args) c.index-as_slice-cause.is ∙ sym c.as_slice-sorts.ensures)

pub returns-in-Some : goal.returns-in-Some
returns-in-Some c =
    let item = c.index-as_slice-cause.result in
    let at : slice_get c.args.self.now.agent.now.fluents c.args.self.now.cause.now.fluent ≡ Some item =
    item-at c.args.self.now.agent.now.fluents c.args.self.now.cause.now.fluent item (cause_is c.args.self.now.agent.now c.args.self.now.cause.now c.requires.agent c.requires.cause).inside (subst (λ xs. item ≡ get_or xs c.args.self.now.cause.now.fluent item) c.as_slice.ensures c.index-as_slice-cause.is) in
    let sorts : c.as_slice-sorts.result.now ≡ (cause_is c.args.self.now.agent.now c.args.self.now.cause.now c.requires.agent c.requires.cause).fluent.args =
    c.as_slice-sorts.ensures ∙ ap (λ i. i.args) (sym c.index-as_slice-cause.is)
    ∙ item_is c.args.self.now.agent.now c.args.self.now.cause.now c.requires.agent c.requires.cause c.args.args.now c.requires.args c.args.given.now c.args.free.now c.requires.head c.requires.even item at in
    let m : matched_values c.args.given.now c.args.args.now [] ≡ Some c.in-Some.found = sym (c.in-Some.ensures ∙ ap (matched_values c.args.given.now c.args.args.now) c.new.ensures) in
    affected c.args.self.now.agent.now c.args.self.now.cause.now c.requires.agent c.requires.cause c.args.args.now c.requires.args c.args.given.now c.args.free.now c.requires.head c.requires.even
    c.args.self.now.values.now c.args.next.now c.spread.new.next c.in-Some.found m c.places_of-places.result.first c.places_of-places.result.count c.places_of-places.ensures
    (subst (λ ss. IsSpread (effect_in c.args.self.now) (sizes c.args.self.now.agent.now ss) c.args.free.now c.in-Some.found c.places_of-places.result.first c.args.next.now c.spread.new.next) sorts c.spread.ensures)

pub returns-in_default : goal.returns-in_default
returns-in_default c =
    let m : matched_values c.args.given.now c.args.args.now [] ≡ None = sym (c.in_default.ensures ∙ ap (matched_values c.args.given.now c.args.args.now) c.new.ensures) in
    unaffected c.args.self.now.agent.now c.args.self.now.cause.now c.requires.agent c.requires.cause c.args.args.now c.requires.args c.args.given.now c.args.free.now c.requires.head c.requires.even
    c.args.self.now.values.now c.args.next.now m
