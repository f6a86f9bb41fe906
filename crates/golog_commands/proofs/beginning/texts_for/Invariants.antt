use Rattle.std.proofs.Common.{map, take}
use Rattle.golog_commands.specs.Inputs.{script_under}
use Rattle.golog_commands.specs.Runs.{AreTextsOf}
use Rattle.golog_commands.proofs.beginning.texts_for.Given as goal

abbrev pub invariant-loop-name : goal.invariant-loop-name
invariant-loop-name l = AreTextsOf l.texts (map (script_under l.listed) (take l.name-index l.agent.devices))
