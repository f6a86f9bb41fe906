-- The answer is never that fuel is wanted.
use Rattle.std.proofs.Common.{◌≡◌, Bool, true, false, not, ◌&&◌, ◌||◌, [], ◌∷◌, Some, None}
use Rattle.golog_tree.specs.declared.agent.Agent.{Agent}
use Rattle.golog_semantics.specs.declared.Mode.TheVariants.{Must, May, Near}
use Rattle.golog_semantics.specs.declared.journal.Answer.TheVariants as answer
use Rattle.golog_semantics.specs.Ways.{is_empty}
use Rattle.golog_semantics.specs.Search.{final}
use Rattle.golog_semantics.specs.Blocks.{moves}
use Rattle.golog_semantics.specs.Journal.{Journal, is_full, is_quiet, is_settled, lacks_results, may_be_answered}
use Rattle.golog_semantics.specs.Progress.{values_after, left_after}
use Rattle.golog_semantics.specs.Answer.{answer_after, first_that_fits, is_deep, is_unanswered}

no-fuel : (a b c d e f g h i j k : Bool)
    → first_that_fits
    ((a, Some answer.Full) ∷ (b, Some answer.Unanswered) ∷ (c, None) ∷ (d, None) ∷ (e, Some answer.Done) ∷ (f, Some answer.Deep) ∷ (g, None) ∷ (h, None) ∷ (i, Some answer.Unanswered) ∷ (j, Some answer.Unknown) ∷ (k, Some answer.Depth) ∷ [])
    (Some answer.Stuck)
    ≡ Some answer.Fuel → ⊥
no-fuel true b c d e f g h i j k is = absurd (cc)
no-fuel false true c d e f g h i j k is = absurd (cc)
no-fuel false false true d e f g h i j k is = absurd (cc)
no-fuel false false false true e f g h i j k is = absurd (cc)
no-fuel false false false false true f g h i j k is = absurd (cc)
no-fuel false false false false false true g h i j k is = absurd (cc)
no-fuel false false false false false false true h i j k is = absurd (cc)
no-fuel false false false false false false false true i j k is = absurd (cc)
no-fuel false false false false false false false false true j k is = absurd (cc)
no-fuel false false false false false false false false false true k is = absurd (cc)
no-fuel false false false false false false false false false false true is = absurd (cc)
no-fuel false false false false false false false false false false false is = absurd (cc)

pub never-fuel : (agent : Agent) (journal : Journal) → answer_after agent journal ≡ Some answer.Fuel → ⊥
unfolding answer_after
never-fuel agent journal e =
    let v = values_after agent journal in
    let p = left_after agent journal in
    no-fuel (is_full journal) (is_unanswered agent journal) (not (is_settled agent journal)) (final agent v Must p && may_be_answered agent journal) (final agent v Must p) (is_deep (moves agent v Must p)) (not (is_empty (moves agent v Must p)))
    (not (is_quiet agent journal)) (lacks_results agent journal) (not (is_empty (moves agent v Near p)) || final agent v Near p) (not (is_empty (moves agent v May p))) e
