use Rattle.golog_commands.proofs.CutShort.{lines-begin}
use Rattle.golog_commands.proofs.InWorlds.{runs-so}
use Rattle.golog_commands.proofs.Reporting.{call-ends, fault-first}
use Rattle.golog_main.proofs.top.golog.Goals as goal

pub returns-clause-ends : goal.returns-clause-ends
returns-clause-ends g c =
    call-ends _ _ _ c.answered.result c.call_status.result c.answered.ensures.reported c.answered.ensures.command c.answered.ensures.nothing c.answered.ensures.no_fault c.answered.ensures.left c.call_status.ensures.status
    c.call_status.ensures.memory

pub returns-clause-fault : goal.returns-clause-fault
returns-clause-fault g c = fault-first _ _ _ _ (returns-clause-ends g c)

pub returns-clause-so : goal.returns-clause-so
returns-clause-so g c = runs-so _ _ _ _ (returns-clause-ends g c)

pub returns-clause-lines : goal.returns-clause-lines
returns-clause-lines g c = lines-begin _ _ _ _ (returns-clause-ends g c)
