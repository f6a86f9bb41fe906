use Rattle.golog_commands.proofs.ready.scripts_in.Goals as goal

pub returns-in-Some-clause-reads : goal.returns-in-Some-clause-reads
returns-in-Some-clause-reads g c = rw c.in-Some.is c.scripts_under.ensures.reads

pub returns-in-Some-clause-unready : goal.returns-in-Some-clause-unready
returns-in-Some-clause-unready g c = rw c.in-Some.is c.scripts_under.ensures.unready
