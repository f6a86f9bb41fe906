-- What certain means for every program and journal: what is taken for certain is so in each world.
use Rattle.std.specs.Prelude.{IsTrue}
use Rattle.golog_tree.specs.declared.agent.Agent.{Agent}
use Rattle.golog_tree.specs.declared.prog.Prog.{Prog}
use Rattle.golog_semantics.specs.declared.journal.Report.{Report}
use Rattle.golog_semantics.specs.Truth.{Values}
use Rattle.golog_semantics.specs.Certain.{CertainIsTrans, JournalIsSo, TransIsPossible}
use Rattle.golog_semantics.specs.World.{Refines}
use Rattle.golog_semantics.specs.ProgFits.{fits}
use Rattle.golog_semantics.specs.WellFormed.{WellFormed}
use Rattle.golog_semantics.specs.Online.{IsOnlineSoFar}

-- in each world in which all is so that is known, the certain steps and ends of a program are steps and
-- ends of it, its runs under way written as blocks, and each step and end of the world may be one
abbrev pub AllStepsAreSo : Type 0
AllStepsAreSo =
    (agent : Agent) → WellFormed agent → (values world : Values) → Refines values world
    → (p : Prog) → IsTrue (fits agent p)
    → CertainIsTrans agent values world p × TransIsPossible agent values world p

-- in each world that agrees with the entries before it, each step of an online execution is a step of the
-- program left, which may end where the journal says done, and may neither step nor end where it says stuck
abbrev pub JournalsAreSo : Type 0
JournalsAreSo =
    (agent : Agent) → WellFormed agent → (report : Report) → IsOnlineSoFar agent report
    → JournalIsSo agent report.entries
