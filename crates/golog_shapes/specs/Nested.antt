-- Parts of a program that nest to the right.
pub use Rattle.golog_tree.specs.Joined.{joined}
use Rattle.std.specs.Prelude.{List, [], ◌∷◌}
use Rattle.golog_tree.specs.declared.prog.Prog.{Prog}
use Rattle.golog_tree.specs.declared.prog.Prog.TheVariants as prog
use Rattle.golog_tree.specs.declared.join.Join.{Join}

-- More than two parts nest to the right; one part stands for itself, and none is `nil`.
abbrev pub nested : Join → List Prog → Prog
nested join [] = prog.Nil
nested join (part ∷ []) = part
nested join (part ∷ next ∷ parts) = joined join part (nested join (next ∷ parts))
