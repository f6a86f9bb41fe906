use Rattle.golog_semantics.proofs.WellNamed.{starts_in_sorts}
use Rattle.golog_commands.proofs.starts.first_of.Goals as goal

pub of-requires : goal.of-requires
of-requires c = rw c.as_slice.ensures (rw c.in-Some.is at c.requires.fits.start)

pub returns-in-Some-clause-values : goal.returns-in-Some-clause-values
returns-in-Some-clause-values c = rw c.in-Some.is (rw c.as_slice.ensures at c.of.ensures.values)

pub of-requires-in-None : goal.of-requires-in-None
of-requires-in-None c = rw c.as_slice-in-None.ensures (starts_in_sorts c.args.agent.now c.requires.formed)

pub returns-in-None-clause-values : goal.returns-in-None-clause-values
returns-in-None-clause-values c = rw c.in-None.is (rw c.as_slice-in-None.ensures at c.of-in-None.ensures.values)
