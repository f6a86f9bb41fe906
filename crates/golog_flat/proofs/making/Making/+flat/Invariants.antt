use Rattle.golog_flat.proofs.Made.{EachSoFar, PartsSoFar}
use Rattle.golog_flat.proofs.making.Making.+flat.Given as goal

abbrev pub invariant-of_parts-loop-cond : goal.invariant-of_parts-loop-cond
invariant-of_parts-loop-cond l = PartsSoFar l.self.agent.now l.negated l.conds l.env l.cond-index l.all l.parts

abbrev pub invariant-of_each-loop-constant : goal.invariant-of_each-loop-constant
invariant-of_each-loop-constant l = EachSoFar l.self.agent.now l.negated l.body l.env l.var l.constant l.all l.parts
