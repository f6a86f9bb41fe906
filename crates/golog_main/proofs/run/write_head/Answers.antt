use Rattle.golog_main.proofs.run.write_head.Goals as goal

pub returns-clause-added : goal.returns-clause-added
returns-clause-added g c = rw c.as_slice.ensures at c.write_all-written.ensures.added

pub returns-clause-prefix : goal.returns-clause-prefix
returns-clause-prefix g c = rw c.as_slice.ensures at c.write_all-written.ensures.prefix
