use Rattle.std.proofs.Common.{◌≡◌, ◌≤◌, [], ◌∷◌, length, take, get_or, sym, ap, ◌∙◌, subst, Some}
use Rattle.std.specs.Prelude.{slice_get}
use Rattle.golog_tree.specs.Ground.{AreWithin, fluent_args, sizes, product, number_of}
use Rattle.golog_progress.proofs.Placed.{item-at, fluent_of, zeros-count}
use Rattle.golog_progress.proofs.causes.places_of.Goals as goal

pub slice_bounds-zeros-end : goal.slice_bounds-zeros-end
slice_bounds-zeros-end c =
    let item = c.index-as_slice-fluent.result in
    let at : slice_get c.args.agent.now.fluents c.args.fluent ≡ Some item = item-at c.args.agent.now.fluents c.args.fluent item c.requires.fluent (subst (λ xs. item ≡ get_or xs c.args.fluent item) c.as_slice.ensures c.index-as_slice-fluent.is) in
    let sorts : c.as_slice-sorts.result.now ≡ item.args = c.as_slice-sorts.ensures ∙ ap (λ i. i.args) (sym c.index-as_slice-fluent.is) in
    let f = fluent_of c.args.agent.now c.requires.agent c.args.fluent item c.requires.fluent at in
    subst (λ xs. length xs ≤ 3) (sym sorts) f.few

pub slice_bounds-fluent_no-end : goal.slice_bounds-fluent_no-end
slice_bounds-fluent_no-end c =
    let item = c.index-as_slice-fluent.result in
    let at : slice_get c.args.agent.now.fluents c.args.fluent ≡ Some item = item-at c.args.agent.now.fluents c.args.fluent item c.requires.fluent (subst (λ xs. item ≡ get_or xs c.args.fluent item) c.as_slice.ensures c.index-as_slice-fluent.is) in
    let sorts : c.as_slice-sorts.result.now ≡ item.args = c.as_slice-sorts.ensures ∙ ap (λ i. i.args) (sym c.index-as_slice-fluent.is) in
    let f = fluent_of c.args.agent.now c.requires.agent c.args.fluent item c.requires.fluent at in
    zeros-count (length c.as_slice-sorts.result.now) (subst (λ xs. length xs ≤ 3) (sym sorts) f.few)

pub args_count-requires-clause-few : goal.args_count-requires-clause-few
args_count-requires-clause-few c =
    let item = c.index-as_slice-fluent.result in
    let at : slice_get c.args.agent.now.fluents c.args.fluent ≡ Some item = item-at c.args.agent.now.fluents c.args.fluent item c.requires.fluent (subst (λ xs. item ≡ get_or xs c.args.fluent item) c.as_slice.ensures c.index-as_slice-fluent.is) in
    let sorts : c.as_slice-sorts.result.now ≡ item.args = c.as_slice-sorts.ensures ∙ ap (λ i. i.args) (sym c.index-as_slice-fluent.is) in
    let f = fluent_of c.args.agent.now c.requires.agent c.args.fluent item c.requires.fluent at in
    subst (λ xs. length xs ≤ 3) (sym sorts) f.few

pub fluent_no-requires-clause-fits : goal.fluent_no-requires-clause-fits
fluent_no-requires-clause-fits c =
    let item = c.index-as_slice-fluent.result in
    let at : slice_get c.args.agent.now.fluents c.args.fluent ≡ Some item = item-at c.args.agent.now.fluents c.args.fluent item c.requires.fluent (subst (λ xs. item ≡ get_or xs c.args.fluent item) c.as_slice.ensures c.index-as_slice-fluent.is) in
    let sorts : c.as_slice-sorts.result.now ≡ item.args = c.as_slice-sorts.ensures ∙ ap (λ i. i.args) (sym c.index-as_slice-fluent.is) in
    let f = fluent_of c.args.agent.now c.requires.agent c.args.fluent item c.requires.fluent at in
    subst (λ ss. AreWithin (sizes c.args.agent.now ss) (take (length c.as_slice-sorts.result.now) (0 ∷ 0 ∷ 0 ∷ []))) (sym f.args)
    (subst (λ xs. AreWithin (sizes c.args.agent.now item.args) (take (length xs) (0 ∷ 0 ∷ 0 ∷ []))) (sym sorts) f.zeros)

pub returns : goal.returns
returns c =
    let item = c.index-as_slice-fluent.result in
    let at : slice_get c.args.agent.now.fluents c.args.fluent ≡ Some item = item-at c.args.agent.now.fluents c.args.fluent item c.requires.fluent (subst (λ xs. item ≡ get_or xs c.args.fluent item) c.as_slice.ensures c.index-as_slice-fluent.is) in
    let sorts : c.as_slice-sorts.result.now ≡ item.args = c.as_slice-sorts.ensures ∙ ap (λ i. i.args) (sym c.index-as_slice-fluent.is) in
    let f = fluent_of c.args.agent.now c.requires.agent c.args.fluent item c.requires.fluent at in
    f.places c.fluent_no.result c.args_count.result
    (c.fluent_no.ensures.number ∙ ap (λ xs. number_of c.args.agent.now (fluent_args c.args.agent.now) c.args.fluent (take (length xs) (0 ∷ 0 ∷ 0 ∷ []))) sorts)
    (c.args_count.ensures ∙ ap (λ xs. product (sizes c.args.agent.now xs)) sorts)
