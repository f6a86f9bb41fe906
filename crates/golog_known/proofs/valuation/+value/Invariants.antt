use Rattle.std.proofs.Common.{◌≡◌, map, take}
use Rattle.std.specs.List.{range_with_len}
use Rattle.std.specs.Prelude.{slice_set}
use Rattle.golog_semantics.specs.Truth.{truth_of, and_of, or_of}
use Rattle.golog_known.proofs.valuation.+value.Given as goal

abbrev pub invariant-all_of-loop-cond : goal.invariant-all_of-loop-cond
invariant-all_of-loop-cond l =
    l.all ≡ and_of (map (λ c. truth_of l.agent l.values c l.env) (take l.cond-index l.conds))

abbrev pub invariant-any_of-loop-cond : goal.invariant-any_of-loop-cond
invariant-any_of-loop-cond l =
    l.any ≡ or_of (map (λ c. truth_of l.agent l.values c l.env) (take l.cond-index l.conds))

abbrev pub invariant-for_some-loop-witness : goal.invariant-for_some-loop-witness
invariant-for_some-loop-witness l =
    l.some ≡ or_of (map (λ c. truth_of l.agent l.values l.body (slice_set l.env l.var c)) (range_with_len 0 l.witness))

abbrev pub invariant-for_all-loop-constant : goal.invariant-for_all-loop-constant
invariant-for_all-loop-constant l =
    l.all ≡ and_of (map (λ c. truth_of l.agent l.values l.body (slice_set l.env l.var c)) (range_with_len 0 l.constant))
