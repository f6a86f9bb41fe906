use Rattle.std.proofs.Common.{◌≡◌, ◌+◌, ◌<◌, ℕ, List, [], ◌∷◌, ◌++◌, length, take, sym, ap, ◌∙◌, arith}
use Rattle.std.specs.Prelude.{slice_index}
use Rattle.std.proofs.lemmas.List.{take_more, take_all, length-map}
use Rattle.std.proofs.lemmas.Option.{slice_get_within}
use Rattle.golog_tree.specs.Ground.{ground_fluents}
use Rattle.golog_semantics.specs.Truth.{unknown}
use Rattle.golog_check.specs.declared.starts.Start.{Start}
use Rattle.golog_check.specs.Starts.{Ground, own_value, one_after, one_value}
use Rattle.golog_check.proofs.StartLaws.{one-more, all-based, all-started}
use Rattle.golog_check.proofs.start_values.initial_values.Goals as goal

pub loop-start-init : goal.loop-start-init
loop-start-init c = record {
  values = all-based c.args.agent.now c.args.starts.now c.deref.result.now c.in_ok-values.values.items
      (λ f h. ap (λ (xs : List ℕ). slice_index xs f) c.deref.ensures.value
      ∙ c.in_ok-own.ensures.values f (omega (arith, c.len.ensures, h)))
      c.in_ok-values.ensures;
  all = ap (λ (xs : List ℕ). length xs) c.in_ok-values.ensures
      ∙ length-map (ground_fluents c.args.agent.now) (λ (at : Ground). slice_index c.deref.result.now at.0);
}

pub loop-start-preserved : goal.loop-start-preserved
loop-start-preserved c =
    let starts = c.args.starts.now in
    let i = c.loop-start.start-index in
    let start = c.start-item.result in
    let gs = ground_fluents c.args.agent.now in
    let more : take (i + 1) starts ≡ take i starts ++ start ∷ [] =
    take_more starts i start c.loop-start-test.true ∙ ap (λ (x : Start). take i starts ++ x ∷ []) (sym c.start-item.is) in
    record {
      values = λ n at h.
          let own = own_value unknown starts at.0 in
          let low : n < length gs = slice_get_within gs n at h in
          c.put_one.ensures.values n at (omega (arith, c.loop-start.invariant.all, low)) h
          ∙ ap (λ m. one_after m start at) (c.loop-start.invariant.values n at h)
          ∙ sym (one-more own (take i starts) start at) ∙ ap (λ (xs : List Start). one_value own xs at) (sym more);
      all = c.put_one.ensures.all ∙ c.loop-start.invariant.all;
    }

pub returns : goal.returns
returns c =
    let starts = c.args.starts.now in
    let whole : take c.loop-start.start-index starts ≡ starts =
    take_all c.loop-start.start-index starts (omega (arith, c.loop-start-test.false)) in
    c.from_vec.ensures
    ∙ all-started c.args.agent.now starts c.loop-start.values.items c.loop-start.invariant.all (λ n at h.
    c.loop-start.invariant.values n at h ∙ ap (λ (xs : List Start). one_value (own_value unknown starts at.0) xs at) whole)
