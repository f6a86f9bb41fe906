-- In which modes a program has a step, where a search block's own steps are told by whoever looks for them.
use Rattle.std.specs.Prelude.{◌≡◌, Bool, not, ◌&&◌, ◌||◌}
use Rattle.golog_tree.specs.declared.agent.Agent.{Agent}
use Rattle.golog_tree.specs.declared.cond.Truth.{Truth}
use Rattle.golog_tree.specs.declared.prog.Prog.{Prog}
use Rattle.golog_semantics.specs.declared.Mode.{Mode}
use Rattle.golog_semantics.specs.declared.Mode.TheVariants.{Must, May, Near}
use Rattle.golog_semantics.specs.Modes.{holds}
use Rattle.golog_semantics.specs.Truth.{Values}
use Rattle.golog_semantics.specs.Ways.{Blocks, is_empty}
use Rattle.golog_semantics.specs.Search.{moves_with}
use Rattle.golog_ways.specs.declared.reaches.Reach.{Reach}

-- whether there is a step in the mode
abbrev pub reaches : Mode → Reach → Bool
reaches Must r = r.must
reaches May r = r.may
reaches Near r = r.near

-- whether a program has a step in a mode, given those of blocks
unfoldable pub has_move : Agent → Blocks → Values → Mode → Prog → Bool
has_move agent blocks values m p = not (is_empty (moves_with agent blocks values m p))

-- the reach of a program, given the steps of blocks
pub record IsReach (agent : Agent) (blocks : Blocks) (values : Values) (p : Prog) (r : Reach) : Type 0 where
  pub steps : (m : Mode) → reaches m r ≡ has_move agent blocks values m p

-- the reach of one program or of another
pub record IsReachOfEither
    (agent : Agent) (blocks : Blocks) (values : Values) (p q : Prog) (r : Reach) : Type 0 where
  pub steps : (m : Mode) → reaches m r ≡ (has_move agent blocks values m p || has_move agent blocks values m q)

-- the reach so far, or that of a program where a condition of this truth holds
pub record IsReachOr
    (agent : Agent) (blocks : Blocks) (values : Values) (so_far : Reach) (cond : Truth) (p : Prog) (r : Reach) : Type 0 where
  pub steps : (m : Mode) → reaches m r ≡ (reaches m so_far || (holds m cond && has_move agent blocks values m p))
