-- The search blocks that a walk over programs comes to.
use Rattle.std.specs.Prelude.{ℕ, List}
use Rattle.golog_tree.specs.declared.prog.Prog.{Prog}
use Rattle.golog_tree.specs.declared.prog.Prog.TheVariants as prog
use Rattle.golog_tree.specs.declared.prog.Way.{Way}
use Rattle.golog_ways.specs.declared.following.Following.{Following}

-- the block as a program
abbrev pub followed : Following → Prog
followed block = prog.Follow block.depth block.fuel block.body.now block.rest.now

-- what is told of blocks by their parts, told of this one
abbrev pub of_block : {A : Type 0} → (ℕ → ℕ → Prog → List Way → A) → Following → A
of_block f block = f block.depth block.fuel block.body.now block.rest.now
