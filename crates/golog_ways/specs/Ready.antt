-- Conditions made ready.
use Rattle.std.specs.Prelude.{All, List}
use Rattle.golog_tree.specs.declared.agent.Agent.{Agent}
use Rattle.golog_flat.specs.Checks.{IsCheckOf}
use Rattle.golog_ways.specs.declared.ready.Ready.{Ready}

-- the check is that of the condition
abbrev pub IsReady : Agent → Ready → Type 0
IsReady agent ready = IsCheckOf agent ready.cond ready.check

-- each check is that of its condition
abbrev pub AreReady : Agent → List Ready → Type 0
AreReady agent all = All (IsReady agent) all
