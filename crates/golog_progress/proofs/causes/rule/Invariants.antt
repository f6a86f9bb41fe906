use Rattle.std.proofs.Common.{◌≡◌, length, drop}
use Rattle.golog_tree.specs.Ground.{ground_fluents}
use Rattle.golog_progress.specs.Effects.{AreRuled}
use Rattle.golog_progress.proofs.causes.rule.Given as goal

abbrev pub invariant-loop-index : goal.invariant-loop-index
invariant-loop-index l =
    AreRuled l.agent l.values (drop l.index l.causes) (l.action, l.args) l.initial.next l.next
    × (length l.next ≡ length (ground_fluents l.agent))
