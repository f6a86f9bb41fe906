-- Laws of programs whose runs under way may be found by searches within their depths.
use Rattle.std.specs.Prelude.{IsTrue, Contains}
use Rattle.std.specs.List.{list_all}
use Rattle.golog_tree.specs.declared.agent.Agent.{Agent}
use Rattle.golog_tree.specs.declared.prog.Prog.{Prog}
use Rattle.golog_semantics.specs.declared.Mode.{Mode}
use Rattle.golog_semantics.specs.declared.Mode.TheVariants.{Must, Near}
use Rattle.golog_semantics.specs.declared.search.Move.{Move}
use Rattle.golog_semantics.specs.Truth.{Values}
use Rattle.golog_semantics.specs.Ways.{is_empty}
use Rattle.golog_certain.specs.FollowedRuns.{runs_within}
use Rattle.golog_semantics.specs.Blocks.{moves}

-- where no step is near, none is certain, search blocks and runs under way included
abbrev pub NoNearNoCertain : Type 0
NoNearNoCertain =
    (agent : Agent) → IsTrue (list_all (λ item. runs_within item.body) agent.procs)
    → (values : Values) (p : Prog) → IsTrue (runs_within p)
    → IsTrue (is_empty (moves agent values Near p)) → IsTrue (is_empty (moves agent values Must p))

-- a run under way in what a step leaves may be found by a search within its depth
abbrev pub RunsStayWithin : Type 0
RunsStayWithin =
    (agent : Agent) → IsTrue (list_all (λ item. runs_within item.body) agent.procs)
    → (values : Values) (m : Mode) (p : Prog) → IsTrue (runs_within p)
    → (step : Move) → Contains (moves agent values m p) step → IsTrue (runs_within step.left)
