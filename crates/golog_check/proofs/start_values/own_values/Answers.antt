use Rattle.std.proofs.Common.{◌≡◌, ◌+◌, List, [], ◌∷◌, ◌++◌, take, sym, ap, ◌∙◌, arith}
use Rattle.std.proofs.lemmas.List.{take_more}
use Rattle.golog_semantics.specs.Truth.{unknown}
use Rattle.golog_check.specs.declared.starts.Start.{Start}
use Rattle.golog_check.specs.Starts.{own_after, own_value}
use Rattle.golog_check.proofs.StartLaws.{own-more}
use Rattle.golog_check.proofs.start_values.own_values.Goals as goal

pub loop-start-preserved : goal.loop-start-preserved
loop-start-preserved c =
    let starts = c.args.starts.now in
    let i = c.loop-start.start-index in
    let start = c.start-item.result in
    let more : take (i + 1) starts ≡ take i starts ++ start ∷ [] =
    take_more starts i start c.loop-start-test.true ∙ ap (λ (x : Start). take i starts ++ x ∷ []) (sym c.start-item.is) in
    record {
      values = λ f h.
          c.put_own.ensures.values f (omega (arith, c.loop-start.invariant.all, h))
          ∙ ap (λ n. own_after n start f) (c.loop-start.invariant.values f h)
          ∙ sym (own-more unknown (take i starts) start f) ∙ ap (λ (xs : List Start). own_value unknown xs f) (sym more);
      all = c.put_own.ensures.all ∙ c.loop-start.invariant.all;
    }
