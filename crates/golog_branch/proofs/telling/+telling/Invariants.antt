use Rattle.std.proofs.Common.{◌≡◌, ◌++◌, take}
use Rattle.std.specs.List.{flat_map}
use Rattle.golog_branch.specs.Trees.{sensed_by_label}
use Rattle.golog_branch.proofs.Told.{later-case}
use Rattle.golog_branch.proofs.telling.+telling.Given as goal

-- the cases so far stand behind the first
abbrev pub invariant-add_next-loop-other : goal.invariant-add_next-loop-other
invariant-add_next-loop-other l =
    let agent = l.planner.agent.now in
    l.text ≡ l.initial.text ++ flat_map (later-case agent (sensed_by_label agent l.label)) (take l.other-index l.others)
