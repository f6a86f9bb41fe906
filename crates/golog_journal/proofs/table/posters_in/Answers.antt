use Rattle.std.proofs.Common.{◌≡◌, ℕ, ◌+◌, ◌<◌, ◌==◌, true, false, length, take, set, get_or, refl, sym, ◌∙◌, subst, arith, length-set}
use Rattle.std.specs.List.{list_any}
use Rattle.golog_journal.proofs.Filling.{mark-more}
use Rattle.golog_journal.proofs.table.posters_in.Goals as goal

pub loop-poster-preserved : goal.loop-poster-preserved
loop-poster-preserved c =
    let marks = c.loop-poster.posters in
    let i = c.loop-poster.poster-index in
    let xs = c.as_slice-poster-items.result.now in
    let same : xs ≡ c.args.item.now.posters = c.as_slice-poster-items.ensures in
    let long : length marks ≡ 16 = c.loop-poster.invariant.1 in
    let inside : i < length xs = c.loop-poster-test.true in
    let below : get_or xs i 0 < 16 = subst (λ ys. get_or ys i 0 < 16) (sym same) (c.requires i 0 (subst (λ ys. i < length ys) same inside)) in (
      subst (λ ys. (d : ℕ) → d < 16 → get_or (set marks (get_or xs i 0) true) d false ≡ list_any (λ y. y == d) (take (i + 1) ys)) same
          (mark-more marks xs i (get_or xs i 0) inside refl (omega (arith, below, long))
          (subst (λ ys. (d : ℕ) → d < 16 → get_or marks d false ≡ list_any (λ y. y == d) (take i ys)) (sym same) c.loop-poster.invariant.0)),
      length-set marks (get_or xs i 0) true ∙ long,
    )
