use Rattle.std.proofs.Common.{◌≡◌, ◌<◌, ℕ, [], ◌∷◌, ◌++◌, length, map, sym, ap, ◌∙◌, subst, arith}
use Rattle.std.specs.Prelude.{slice_set}
use Rattle.std.specs.List.{range_with_len}
use Rattle.std.proofs.lemmas.List.{map-append}
use Rattle.std.proofs.lemmas.List.FromFn.{map-range_with_len_more}
use Rattle.golog_tree.specs.Ground.{fluent_args, ground_count, ground_fluents, sort_size}
use Rattle.golog_tree.proofs.Numbers.{length-all_from}
use Rattle.golog_semantics.specs.Truth.{Values}
use Rattle.golog_semantics.specs.Values.{fluent_sort}
use Rattle.golog_branch.specs.Levels.{case_of}
use Rattle.golog_branch.specs.Trees.{with_sensed}
use Rattle.golog_branch.proofs.planner.Planner.sensed_cases.Goals as goal

pub fluent_sort-requires-clause-countable : goal.fluent_sort-requires-clause-countable
fluent_sort-requires-clause-countable c = c.requires.agent.countable

pub fluent_sort-requires-clause-number : goal.fluent_sort-requires-clause-number
fluent_sort-requires-clause-number c =
    let agent = c.args.self.now.agent.now in
    let count : length (ground_fluents agent) ≡ ground_count agent (fluent_args agent) = length-all_from agent (fluent_args agent) 0 in
    let whole = c.requires.whole in
    let inside = c.requires.number in
    omega arith

pub sort_size-count-requires : goal.sort_size-count-requires
sort_size-count-requires c = c.requires.agent.countable

pub after_sense-requires : goal.after_sense-requires
after_sense-requires c = subst (λ (v : Values). c.args.fluent < length v) (sym c.in_ok-state.ensures) c.requires.number

pub loop-value-preserved : goal.loop-value-preserved
loop-value-preserved c =
    let f = with_sensed c.args.there.now c.args.fluent in
    let value = c.loop-value.value in
    let state = c.after_sense.ensures.values ∙ ap (λ (v : Values). slice_set v c.args.fluent value) c.in_ok-state.ensures in
    let before = c.loop-value.invariant in
    ap (map case_of) c.in_ok-push.ensures.ok ∙ map-append case_of c.loop-value.cases _
    ∙ (λ i. before i ++ (value, state i) ∷ []) ∙ sym (map-range_with_len_more f 0 value value (omega arith))

pub returns : goal.returns
returns c =
    let agent = c.args.self.now.agent.now in
    let f = with_sensed c.args.there.now c.args.fluent in
    let size : c.sort_size-count.result ≡ sort_size agent (fluent_sort agent c.args.fluent) = c.sort_size-count.ensures.size ∙ ap (sort_size agent) c.fluent_sort.ensures in
    let end : c.loop-value.value ≡ sort_size agent (fluent_sort agent c.args.fluent) = omega arith in
    c.loop-value.invariant ∙ ap (λ (n : ℕ). map f (range_with_len 0 n)) end
