-- What a step of a program leaves and begins.
use Rattle.std.specs.Prelude.{Option, List, option_map, option_and_then}
use Rattle.golog_tree.specs.declared.prog.Label.{Label}
use Rattle.golog_tree.specs.declared.prog.Prog.{Prog}
use Rattle.golog_semantics.specs.declared.search.Move.{Move}

-- the program that a step leaves, where there is a step
abbrev pub left_of : Option Move → Option Prog
left_of step = option_map (λ (m : Move). m.left) step

-- the run that begins with a step, where there is a step
abbrev pub step_run : Option Move → Option (List Label)
step_run step = option_and_then (λ (m : Move). m.run) step
