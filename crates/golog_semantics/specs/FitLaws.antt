-- Laws of programs that stay inside the numbers, sorts and limits of an agent.
use Rattle.std.specs.Prelude.{IsTrue, Bool, true, Contains}
use Rattle.std.specs.List.{list_all}
use Rattle.std.specs.Option.{option_map_or}
use Rattle.golog_tree.specs.declared.agent.Agent.{Agent}
use Rattle.golog_tree.specs.declared.agent.ProcItem.{ProcItem}
use Rattle.golog_tree.specs.declared.prog.Prog.{Prog}
use Rattle.golog_semantics.specs.declared.Mode.{Mode}
use Rattle.golog_semantics.specs.declared.search.Move.{Move}
use Rattle.golog_semantics.specs.Truth.{Values}
use Rattle.golog_semantics.specs.Blocks.{moves}
use Rattle.golog_semantics.specs.Reports.{fits_label}
use Rattle.golog_semantics.specs.Fits.{bound_from}
use Rattle.golog_semantics.specs.WellFormed.{WellFormed}
use Rattle.golog_semantics.specs.Journal.{Journal}
use Rattle.golog_semantics.specs.Progress.{left_after}
use Rattle.golog_semantics.specs.ProgFits.{outermost, prog_fits, fits}

-- the body of a procedure fits, with its parameters as variables
abbrev pub body_fits : Agent → ProcItem → Bool
body_fits agent item = prog_fits agent item.body (record outermost { scope = bound_from 0 item.params })

pub record ProcsFit (agent : Agent) : Type 0 where
  pub bodies : IsTrue (list_all (body_fits agent) agent.procs)

-- what a step leaves fits, and its actions are the agent's, those of a run that begins with it too
pub record StepStays (agent : Agent) (step : Move) : Type 0 where
  pub left : IsTrue (fits agent step.left)
  pub label : IsTrue (fits_label agent step.label)
  pub run : IsTrue (option_map_or (list_all (fits_label agent)) step.run true)

-- each step of a program that fits stays inside the numbers, sorts and limits of the agent, and leaves no
-- variable free
abbrev pub StepsStay : Type 0
StepsStay =
    (agent : Agent) → ProcsFit agent → (values : Values) (m : Mode) (p : Prog) → IsTrue (fits agent p)
    → (step : Move) → Contains (moves agent values m p) step → StepStays agent step

-- in a well-formed agent the procedures fit
abbrev pub WellFormedFits : Type 0
WellFormedFits = (agent : Agent) → WellFormed agent → ProcsFit agent

-- the program left along a journal stays inside the agent
abbrev pub LeftStays : Type 0
LeftStays =
    (agent : Agent) → WellFormed agent → (journal : Journal) → IsTrue (fits agent (left_after agent journal))
