-- Laws of the steps of programs of a guarded agent.
use Rattle.std.specs.Prelude.{◌≡◌, ℕ, ◌≤◌}
use Rattle.golog_tree.specs.declared.agent.Agent.{Agent}
use Rattle.golog_tree.specs.declared.prog.Prog.{Prog}
use Rattle.golog_tree.specs.declared.prog.Prog.TheViews.{out-Prog}
use Rattle.golog_semantics.specs.declared.Mode.{Mode}
use Rattle.golog_semantics.specs.Truth.{Values}
use Rattle.golog_semantics.specs.Guarded.{front, IsGuarded}
use Rattle.golog_semantics.specs.FrontCalls.{NoneReachesItself}
use Rattle.golog_semantics.specs.Ways.{Blocks, final_step, final_to, moves_step, moves_to}
use Rattle.golog_semantics.specs.Search.{final, moves_with}
use Rattle.golog_semantics.specs.Blocks.{block_moves, moves}

-- looking deeper than the height of a program changes nothing of Final
abbrev pub FinalSettles : Type 0
FinalSettles =
    (agent : Agent) → IsGuarded agent → (values : Values) (m : Mode) (p : Prog) (depth : ℕ)
    → (front agent p).height ≤ depth → final_to agent values depth m p ≡ final agent values m p

-- nor of the steps, whatever the steps of blocks are
abbrev pub MovesSettle : Type 0
MovesSettle =
    (agent : Agent) → IsGuarded agent → (values : Values) (blocks : Blocks) (m : Mode) (p : Prog) (depth : ℕ)
    → (front agent p).height ≤ depth
    → moves_to agent values blocks depth m p ≡ moves_with agent blocks values m p

-- Final of a program is that of its one construct, by Final of the parts and of the bodies that are called
abbrev pub FinalUnfolds : Type 0
FinalUnfolds =
    (agent : Agent) → IsGuarded agent → (values : Values) (m : Mode) (p : Prog)
    → final agent values m p ≡ final_step agent values (final agent values) m (out-Prog p)

-- the steps of a program are those of its one construct, whatever the steps of blocks are
abbrev pub MovesUnfold : Type 0
MovesUnfold =
    (agent : Agent) → IsGuarded agent → (values : Values) (blocks : Blocks) (m : Mode) (p : Prog)
    → moves_with agent blocks values m p
    ≡ moves_step agent values blocks (final agent values) (moves_with agent blocks values) m (out-Prog p)

-- and so are the steps of any program
abbrev pub StepsUnfold : Type 0
StepsUnfold =
    (agent : Agent) → IsGuarded agent → (values : Values) (m : Mode) (p : Prog)
    → let here = block_moves agent values in
    moves agent values m p
    ≡ moves_step agent values here (final agent values) (moves agent values) m (out-Prog p)

-- An agent is guarded, which its rounds settle, exactly if no procedure reaches itself without a step.
pub record GuardedIsUnreached (agent : Agent) : Type 0 where
  pub none_reaches : IsGuarded agent → NoneReachesItself agent
  pub is_guarded : NoneReachesItself agent → IsGuarded agent

abbrev pub GuardedByReach : Type 0
GuardedByReach = (agent : Agent) → GuardedIsUnreached agent
