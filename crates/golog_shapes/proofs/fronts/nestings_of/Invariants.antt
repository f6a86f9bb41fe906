use Rattle.std.proofs.Common.{◌≡◌, map, take}
use Rattle.golog_tree.specs.declared.draft.DraftProc.{DraftProc}
use Rattle.golog_shapes.specs.Told.{nesting, nesting_by}
use Rattle.golog_shapes.proofs.fronts.nestings_of.Given as goal

abbrev pub invariant-loop-item : goal.invariant-loop-item
invariant-loop-item l = map nesting l.items ≡ map (λ (item : DraftProc). nesting_by l.skips item.body) (take l.item-index l.procs)
