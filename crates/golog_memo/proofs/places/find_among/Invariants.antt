use Rattle.std.proofs.Common.{◌≡◌, ℕ, true, false, drop}
use Rattle.golog_memo.specs.Placed.{is_among}
use Rattle.golog_memo.proofs.places.find_among.Given as goal

-- none passes so far, so that those still to be tried decide
abbrev pub invariant-loop-other : goal.invariant-loop-other
invariant-loop-other g l =
    ((place : ℕ) → is_among (drop l.other-index l.others) l.hash place ≡ true → goal.F-post g l.is_same place false)
    → (place : ℕ) → is_among l.others l.hash place ≡ true → goal.F-post g l.is_same place false
