-- When programs may end.
use Rattle.std.specs.Prelude.{◌≡◌, ◌&&◌, ◌||◌, IsTrue}
use Rattle.golog_tree.specs.declared.agent.Agent.{Agent}
use Rattle.golog_tree.specs.declared.cond.Cond.{Cond}
use Rattle.golog_tree.specs.declared.cond.Truth.{Truth}
use Rattle.golog_tree.specs.declared.prog.Prog.{Prog}
use Rattle.golog_semantics.specs.declared.Mode.{Mode}
use Rattle.golog_semantics.specs.Modes.{holds}
use Rattle.golog_semantics.specs.Truth.{Values}
use Rattle.golog_semantics.specs.Fits.{cond_fits, nothing_bound}
use Rattle.golog_semantics.specs.Fronts.{IsEnd}
use Rattle.golog_semantics.specs.Search.{final}

-- the condition under which a program may end, with no free variable and of the agent's numbers and sorts
pub record IsClosedEnd (agent : Agent) (p : Prog) (c : Cond) : Type 0 where
  pub end : IsEnd agent p c
  pub closed : IsTrue (cond_fits agent c nothing_bound)

-- the conditions under which two programs may end
pub record AreEnds (agent : Agent) (p q : Prog) (c d : Cond) : Type 0 where
  pub one : IsClosedEnd agent p c
  pub other : IsClosedEnd agent q d

-- the truth holds in the modes in which the program may end
pub record EndsAs (agent : Agent) (values : Values) (p : Prog) (t : Truth) : Type 0 where
  pub ends : (m : Mode) → holds m t ≡ final agent values m p

-- the same of two programs that both have to end
pub record EndsAsBoth (agent : Agent) (values : Values) (p q : Prog) (t : Truth) : Type 0 where
  pub ends : (m : Mode) → holds m t ≡ (final agent values m p && final agent values m q)

-- the same of what ends as this truth so far, or as a program where a condition of that truth holds
pub record EndsAsOr (agent : Agent) (values : Values) (so_far cond : Truth) (p : Prog) (t : Truth) : Type 0 where
  pub ends : (m : Mode) → holds m t ≡ (holds m so_far || (holds m cond && final agent values m p))
