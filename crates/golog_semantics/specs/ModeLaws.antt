-- Laws of the modes: what is certain is near, and what is near is possible.
use Rattle.std.specs.Prelude.{◌≡◌, IsTrue, not}
use Rattle.golog_tree.specs.declared.agent.Agent.{Agent}
use Rattle.golog_tree.specs.declared.prog.Prog.{Prog}
use Rattle.golog_semantics.specs.declared.Mode.{Mode}
use Rattle.golog_semantics.specs.declared.Mode.TheVariants.{Must, May, Near}
use Rattle.golog_semantics.specs.Truth.{Values}
use Rattle.golog_semantics.specs.Ways.{is_empty}
use Rattle.golog_semantics.specs.Search.{final}
use Rattle.golog_semantics.specs.Moves.{plain_moves}
use Rattle.golog_semantics.specs.Blocks.{moves}
use Rattle.golog_semantics.specs.BlockFree.{has_block}
use Rattle.golog_semantics.specs.Sublist.{IsSublist}

-- an end that is certain is a near one, and the near ends are the possible ones
pub record EndsAreOrdered (agent : Agent) (values : Values) (p : Prog) : Type 0 where
  pub certain_is_near : IsTrue (final agent values Must p) → IsTrue (final agent values Near p)
  pub near_is_possible : final agent values Near p ≡ final agent values May p

-- without blocks, the certain steps are near ones, in order, and the near steps are the possible ones
pub record PlainStepsAreOrdered (agent : Agent) (values : Values) (p : Prog) : Type 0 where
  pub certain_are_near : IsSublist (plain_moves agent values Must p) (plain_moves agent values Near p)
  pub near_are_possible : plain_moves agent values Near p ≡ plain_moves agent values May p

abbrev pub EndsOrdered : Type 0
EndsOrdered = (agent : Agent) (values : Values) (p : Prog) → EndsAreOrdered agent values p

abbrev pub PlainStepsOrdered : Type 0
PlainStepsOrdered = (agent : Agent) (values : Values) (p : Prog) → PlainStepsAreOrdered agent values p

-- with blocks too, the near steps are possible ones, in the same order
abbrev pub NearStepsArePossible : Type 0
NearStepsArePossible =
    (agent : Agent) (values : Values) (p : Prog)
    → IsSublist (moves agent values Near p) (moves agent values May p)

-- a program that holds and reaches no block has the steps that it has without blocks
abbrev pub BlocklessSteps : Type 0
BlocklessSteps =
    (agent : Agent) (values : Values) (m : Mode) (p : Prog) → IsTrue (not (has_block agent p))
    → moves agent values m p ≡ plain_moves agent values m p

-- where no step is possible, none is near
abbrev pub NoPossibleNoNear : Type 0
NoPossibleNoNear =
    (agent : Agent) (values : Values) (p : Prog)
    → IsTrue (is_empty (moves agent values May p)) → IsTrue (is_empty (moves agent values Near p))
