use Rattle.std.proofs.Common.{◌∙◌, ◌≤◌, length, ap, sym, subst, refl}
use Rattle.std.specs.Prelude.{slice_get, unwrap_or}
use Rattle.std.proofs.lemmas.Option.{slice_get_past, slice_get_read}
use Rattle.golog_tree.specs.Ground.{sort_size}
use Rattle.golog_tree.proofs.Decoded.{size-counted, sort_size-small}
use Rattle.golog_tree.proofs.ground.sort_size.Goals as goal

pub returns-in-Some-clause-size : goal.returns-in-Some-clause-size
returns-in-Some-clause-size c =
    let at = slice_get_read c.as_slice.result.now (length c.as_slice.result.now) c.args.sort c.in-Some.size.now refl c.in-Some.ensures.lookup.3.0 c.in-Some.ensures.lookup.1 in
    sym (size-counted c.args.agent.now c.args.sort c.requires
    ∙ ap (λ counted. unwrap_or (slice_get counted c.args.sort) 0) (sym c.as_slice.ensures)
    ∙ ap (λ found. unwrap_or found 0) at)

pub returns-in-Some-clause-small : goal.returns-in-Some-clause-small
returns-in-Some-clause-small c =
    subst (λ size. size ≤ 255) (sym (returns-in-Some-clause-size c)) (sort_size-small c.args.agent.now c.args.sort c.requires)

pub returns-in-None-clause-size : goal.returns-in-None-clause-size
returns-in-None-clause-size c =
    let past = slice_get_past c.as_slice.result.now c.args.sort c.in-None.ensures.lookup.3 in
    sym (size-counted c.args.agent.now c.args.sort c.requires
    ∙ ap (λ counted. unwrap_or (slice_get counted c.args.sort) 0) (sym c.as_slice.ensures)
    ∙ ap (λ found. unwrap_or found 0) past)
