use Rattle.golog_theory.proofs.Starting.{one_added}
use Rattle.golog_theory.proofs.draft.add_started.Goals as goal

pub returns-in_ok-insert-in-One : goal.returns-in_ok-insert-in-One
returns-in_ok-insert-in-One c =
    rw c.in-One.is (one_added c.args.started.now c.insert.new.self c.in_ok-cell-in-One.cell c.in-One.fluent c.in-One.args
    c.in-One.value c.in-One.at (rw c.as_slice.ensures at c.in_ok-cell-in-One.ensures) c.in_ok-insert-in-One.ensures.updates)
