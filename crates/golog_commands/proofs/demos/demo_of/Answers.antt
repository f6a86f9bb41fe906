use Rattle.std.proofs.Common.{◌≡◌, IfOk, Ok, subst}
use Rattle.golog_script.specs.DevicesFile.{scripts_of}
use Rattle.golog_file.specs.Spelled.{SpellsAgent}
use Rattle.golog_commands.proofs.demos.demo_of.Goals as goal

pub returns-clause-agent : goal.returns-clause-agent
returns-clause-agent c =
    subst (λ text. IfOk c.ready_of-ready.result (λ ready. SpellsAgent text ready.agent)) c.in_ok-files.ensures.agent c.ready_of-ready.ensures.agent

pub returns-clause-scripts : goal.returns-clause-scripts
returns-clause-scripts c =
    subst (λ text. IfOk c.ready_of-ready.result (λ ready. (scripts_of ready.agent.devices text).outcome ≡ Ok ready.scripts))
    c.in_ok-files.ensures.devices c.ready_of-ready.ensures.scripts
