use Rattle.golog_theory.specs.Names.{lists}
use Rattle.golog_theory.proofs.Found.{finds_more}
use Rattle.golog_theory.proofs.index.constants_of.Goals as goal

pub loop-number-preserved : goal.loop-number-preserved
loop-number-preserved c =
    finds_more lists c.loop-number.numbers c.add_constants.new.numbers c.args.sorts.now c.loop-number.number c.index-sorts-number.result
    c.loop-number-test.true c.index-sorts-number.is c.loop-number.invariant c.in_ok-add_constants.ensures
