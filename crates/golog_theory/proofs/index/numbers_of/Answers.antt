use Rattle.golog_theory.specs.Names.{same}
use Rattle.golog_theory.proofs.Found.{finds_more}
use Rattle.golog_theory.proofs.index.numbers_of.Goals as goal

pub loop-number-preserved : goal.loop-number-preserved
loop-number-preserved g c =
    finds_more (λ word item. same word (g.T.Named.name item)) c.loop-number.numbers c.add.new.self c.args.items.now c.loop-number.number
    c.index-items-number.result c.loop-number-test.true c.index-items-number.is c.loop-number.invariant
    (rw c.name.ensures at c.in_ok-add.ensures)
