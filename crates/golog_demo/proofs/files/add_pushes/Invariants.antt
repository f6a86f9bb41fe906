use Rattle.std.proofs.Common.{◌≡◌, ◌-◌, ◌++◌, codes}
use Rattle.std.specs.List.{flat_map}
use Rattle.golog_demo.specs.Demo.{downward, push_text}
use Rattle.golog_demo.proofs.files.add_pushes.Given as goal

-- with the pushes below, the text is that of all
abbrev pub invariant-loop-below : goal.invariant-loop-below
invariant-loop-below l =
    l.text ++ flat_map (λ floor. codes "," ++ push_text floor) (downward (l.size - l.below))
    ≡ l.initial.text ++ flat_map (λ floor. codes "," ++ push_text floor) (downward (l.size - 1))
