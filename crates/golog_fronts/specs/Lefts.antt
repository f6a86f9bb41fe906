-- What the steps of a closed program leave.
use Rattle.std.specs.Prelude.{Bool, IsTrue}
use Rattle.golog_tree.specs.declared.agent.Agent.{Agent}
use Rattle.golog_tree.specs.declared.prog.Prog.{Prog}
use Rattle.golog_tree.specs.declared.prog.Way.{Way}
use Rattle.golog_semantics.specs.Fits.{nothing_bound}
use Rattle.golog_semantics.specs.ProgFits.{prog_fits}
use Rattle.golog_semantics.specs.Reports.{fits_label}
use Rattle.golog_fronts.specs.Closed.{IsClosed}

-- a program with no free variable fits the agent, within a search block or outside
abbrev pub fits_in : Agent → Bool → Prog → Bool
fits_in agent in_block p = prog_fits agent p (record { scope = nothing_bound; in_block = in_block })

-- The step's action is the agent's, and what the step leaves is closed, so that its steps can be asked for in
-- turn. It fits within a search block where the program does, and outside where the program does.
pub record LeavesClosed (agent : Agent) (p : Prog) (way : Way) : Type 0 where
  pub label : IsTrue (fits_label agent way.label)
  pub left : IsClosed agent way.left
  pub fits : (in_block : Bool) → IsTrue (fits_in agent in_block p) → IsTrue (fits_in agent in_block way.left)
