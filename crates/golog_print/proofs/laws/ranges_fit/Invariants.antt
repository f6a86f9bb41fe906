use Rattle.std.proofs.Common.{◌≡◌, ℕ, ◌<◌, Some}
use Rattle.std.specs.Prelude.{ℤ, slice_get, FitsSigned}
use Rattle.std.specs.Int.{w32}
use Rattle.golog_tree.specs.declared.agent.SortItem.TheVariants.{Range}
use Rattle.golog_semantics.specs.Text.{Text}
use Rattle.golog_print.proofs.laws.ranges_fit.Given as goal

-- the ends of the sorts so far are in the range of their type
abbrev pub invariant-loop-item : goal.invariant-loop-item
invariant-loop-item l =
    (sort : ℕ) (name : Text) (low high : ℤ) → sort < l.item-index → slice_get l.item-items sort ≡ Some (Range name low high)
    → FitsSigned w32 low × FitsSigned w32 high
