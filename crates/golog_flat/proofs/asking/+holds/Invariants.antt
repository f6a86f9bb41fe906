use Rattle.std.proofs.Common.{◌≡◌, true, false, take}
use Rattle.std.specs.List.{list_all, list_any}
use Rattle.golog_flat.specs.Checks.{check_truth, holds_by}
use Rattle.golog_flat.proofs.asking.+holds.Given as goal

abbrev pub invariant-all_hold-loop-part : goal.invariant-all_hold-loop-part
invariant-all_hold-loop-part l =
    list_all (λ c. holds_by l.lenient (check_truth l.agent l.values c)) (take l.part-index l.parts) ≡ true

abbrev pub invariant-any_holds-loop-part : goal.invariant-any_holds-loop-part
invariant-any_holds-loop-part l =
    list_any (λ c. holds_by l.lenient (check_truth l.agent l.values c)) (take l.part-index l.parts) ≡ false
