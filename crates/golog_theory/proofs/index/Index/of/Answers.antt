use Rattle.golog_theory.proofs.index.Index.of.Goals as goal

pub returns : goal.returns
returns c = record {
  sorts = rw c.as_slice.ensures at c.in_ok-numbers_of.ensures;
  constants = rw c.as_slice-2.ensures at c.in_ok-constants_of.ensures;
  devices = rw c.as_slice-3.ensures at c.in_ok-numbers_of-2.ensures;
  fluents = rw c.as_slice-4.ensures at c.in_ok-numbers_of-3.ensures;
  actions = rw c.as_slice-5.ensures at c.in_ok-numbers_of-4.ensures;
}
