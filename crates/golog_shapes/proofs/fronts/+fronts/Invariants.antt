use Rattle.std.proofs.Common.{◌≡◌, Bool, ◌||◌, List, ℕ, ◌++◌, map, take, drop}
use Rattle.std.specs.List.{list_any, list_all}
use Rattle.golog_shapes.specs.Fronts.{Fore, IsFront, in_row, calls_of, is_none, draft_fore}
use Rattle.golog_shapes.proofs.fronts.+fronts.Given as goal

abbrev pub invariant-front_of_seq-loop-part : goal.invariant-front_of_seq-loop-part
invariant-front_of_seq-loop-part l =
    (skip : Bool) (after : List ℕ) → IsFront (in_row (map (draft_fore l.skips) (drop l.part-index l.parts))) skip l.calls after
    → IsFront (in_row (map (draft_fore l.skips) l.parts)) skip l.fn.calls after

abbrev pub invariant-front_of_choice-loop-part : goal.invariant-front_of_choice-loop-part
invariant-front_of_choice-loop-part l = record {
  skipped : l.skip ≡ (is_none (map (draft_fore l.skips) l.parts) || list_any (λ (p : Fore). p.skip) (map (draft_fore l.skips) (take l.part-index l.parts)));
  called : l.calls ≡ l.fn.calls ++ calls_of (map (draft_fore l.skips) (take l.part-index l.parts));
}

abbrev pub invariant-front_of_all-loop-part : goal.invariant-front_of_all-loop-part
invariant-front_of_all-loop-part l = record {
  skipped : l.skip ≡ list_all (λ (p : Fore). p.skip) (map (draft_fore l.skips) (take l.part-index l.parts));
  called : l.calls ≡ l.fn.calls ++ calls_of (map (draft_fore l.skips) (take l.part-index l.parts));
}
