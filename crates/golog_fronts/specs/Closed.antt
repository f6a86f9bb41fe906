-- Agents and programs whose steps can be found.
use Rattle.std.specs.Prelude.{Bool, IsTrue, nat_le, length}
use Rattle.std.specs.List.{list_all}
use Rattle.golog_tree.specs.declared.agent.Agent.{Agent}
use Rattle.golog_tree.specs.declared.prog.Prog.{Prog}
use Rattle.golog_tree.specs.Ground.{IsCountable}
use Rattle.golog_semantics.specs.Guarded.{IsGuarded}
use Rattle.golog_semantics.specs.Fits.{nothing_bound}
use Rattle.golog_semantics.specs.ProgFits.{prog_fits}
use Rattle.golog_semantics.specs.FitLaws.{ProcsFit}
use Rattle.golog_semantics.specs.WellFormed.{WellFormed, poss_fits}

-- No procedure reaches itself without a step, ground things can be numbered, and procedures and
-- preconditions stay inside the numbers and sorts of the agent.
pub record IsFit (agent : Agent) : Type 0 where
  pub guarded : IsGuarded agent
  pub countable : IsCountable agent
  pub procs : ProcsFit agent
  pub params : IsTrue (list_all (λ item. nat_le (length item.params) 3) agent.procs)
  pub poss : IsTrue (list_all (poss_fits agent) agent.poss)

-- a program that fits the agent with no free variable, as it stands within a search block or outside
pub record IsClosed (agent : Agent) (p : Prog) : Type 0 where
  pub in_block : Bool
  pub fits : IsTrue (prog_fits agent p (record { scope = nothing_bound; in_block = in_block }))

-- a well-formed agent is such an agent
abbrev pub WellFormedIsFit : Type 0
WellFormedIsFit = (agent : Agent) → WellFormed agent → IsFit agent
