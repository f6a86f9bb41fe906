use Rattle.std.proofs.Common.{◌≡◌, ℕ, List, sym, ap, subst, ◌∙◌, arith}
use Rattle.std.specs.Prelude.{slice_index, slice_set}
use Rattle.golog_check.specs.declared.starts.Start.{Start}
use Rattle.golog_check.specs.declared.starts.Start.TheVariants.{One}
use Rattle.golog_check.specs.Starts.{one_after}
use Rattle.golog_check.proofs.StartLaws.{put-hit, put-apart}
use Rattle.golog_check.proofs.start_values.put_one.Goals as goal

pub returns-then-number-len-clause-values : goal.returns-then-number-len-clause-values
returns-then-number-len-clause-values c = λ n at low h.
    let values = c.args.values.now.items in
    let is : c.args.start.now ≡ One c.in-One.fluent c.as_slice.result.now c.in-One.value =
    c.in-One.is ∙ ap (λ (args : List ℕ). One c.in-One.fluent args c.in-One.value) (sym c.as_slice.ensures) in
    subst (λ (s : Start). slice_index (slice_set values c.in-Some.number c.in-One.value) n ≡ one_after (slice_index values n) s at)
    (sym is)
    (put-hit c.args.agent.now values c.in-Some.number n c.in-One.fluent c.as_slice.result.now c.in-One.value at.0 at.1 low
    (omega arith) c.in-Some.ensures h)

pub returns-else-number-len-clause-values : goal.returns-else-number-len-clause-values
returns-else-number-len-clause-values c = λ n at low h.
    let values = c.args.values.now.items in
    let is : c.args.start.now ≡ One c.in-One.fluent c.as_slice.result.now c.in-One.value =
    c.in-One.is ∙ ap (λ (args : List ℕ). One c.in-One.fluent args c.in-One.value) (sym c.as_slice.ensures) in
    subst (λ (s : Start). slice_index values n ≡ one_after (slice_index values n) s at) (sym is)
    (sym (put-apart c.args.agent.now (slice_index values n) c.in-Some.number n c.in-One.fluent c.as_slice.result.now
    c.in-One.value at.0 at.1 c.in-Some.ensures h (λ s. omega arith)))
