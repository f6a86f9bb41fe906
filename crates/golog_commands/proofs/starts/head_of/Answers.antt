use Rattle.golog_commands.proofs.starts.head_of.Goals as goal

pub head_text-requires-clause-sorts : goal.head_text-requires-clause-sorts
head_text-requires-clause-sorts c = rw c.as_slice.ensures (rw c.in-Some.is at c.requires.sorts)

pub returns-in-Some : goal.returns-in-Some
returns-in-Some c = rw c.in-Some.is (rw c.as_slice.ensures at c.head_text.ensures)

pub returns-in-None : goal.returns-in-None
returns-in-None c = rw c.in-None.is c.new.ensures
