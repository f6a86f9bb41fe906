use Rattle.std.proofs.Common.{ℕ, Bool, ◌&&◌, ◌||◌, ◌+◌, List, drop, sym, ap, ◌∙◌, arith}
use Rattle.std.specs.List.{list_any, enumerate_from}
use Rattle.std.proofs.lemmas.List.{at_drop_all}
use Rattle.golog_shapes.specs.Unguarded.{said}
use Rattle.golog_rows.proofs.Each.{drop-item}
use Rattle.golog_shapes.proofs.reaching.is_endless.Goals as goal

abbrev ends : ℕ → ℕ × List Bool → Bool
ends item at = said at.1 at.0 && said at.1 item

abbrev any_from : ℕ → ℕ → List (List Bool) → Bool
any_from item n rs = list_any (ends item) (enumerate_from n rs)

pub returns-then-reaches : goal.returns-then-reaches
returns-then-reaches c =
    let item = c.args.item in
    let i = c.loop-goal.goal in
    sym (c.loop-goal.invariant
    ∙ ap (any_from item i) (drop-item c.args.reached.now i c.index-reached-goal.result (omega arith) c.index-reached-goal.is)
    ∙ ap (λ b. b || any_from item (i + 1) (drop (i + 1) c.args.reached.now))
    (ap (λ (marks : List Bool). ends item (i, marks)) (sym c.as_slice.ensures) ∙ sym c.reaches_endless-reaches.ensures ∙ c.if-reaches.true))

pub loop-goal-preserved : goal.loop-goal-preserved
loop-goal-preserved c =
    let item = c.args.item in
    let i = c.loop-goal.goal in
    c.loop-goal.invariant
    ∙ ap (any_from item i) (drop-item c.args.reached.now i c.index-reached-goal.result (omega arith) c.index-reached-goal.is)
    ∙ ap (λ b. b || any_from item (i + 1) (drop (i + 1) c.args.reached.now))
    (ap (λ (marks : List Bool). ends item (i, marks)) (sym c.as_slice.ensures) ∙ sym c.reaches_endless-reaches.ensures ∙ c.if-reaches.false)

pub returns : goal.returns
returns c =
    sym (c.loop-goal.invariant ∙ at_drop_all (any_from c.args.item c.loop-goal.goal) c.args.reached.now c.loop-goal.goal (omega arith))
