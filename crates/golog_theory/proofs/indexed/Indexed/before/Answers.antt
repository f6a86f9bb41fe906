use Rattle.golog_theory.specs.Before.{before}
use Rattle.golog_theory.specs.Index.{declared}
use Rattle.golog_theory.proofs.Within.{index-before}
use Rattle.golog_theory.proofs.indexed.Indexed.before.Goals as goal

pub invariant_of-result : goal.invariant_of-result
unfolding before
invariant_of-result c =
    let indexed = c.self.inside in
    rw (c.items_before.ensures, c.items_before-2.ensures, c.items_before-3.ensures, c.items_before-4.ensures)
    (index-before indexed.index.now c.args.place (declared indexed.theory.now indexed.sorts.now indexed.devices.now indexed.fluents.now indexed.actions.now) c.self.invariant)
