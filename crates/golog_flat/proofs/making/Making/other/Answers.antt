use Rattle.golog_flat.proofs.Made.{made-other}
use Rattle.golog_flat.proofs.making.Making.other.Goals as goal

pub returns-clause-made : goal.returns-clause-made
returns-clause-made c =
    made-other c.args.self.now.agent.now c.args.cond.now c.args.negated c.in_ok-cond.cond c.in_ok-cond.ensures c.args.env.now
    (c.requires.empty c.if-bound.false) (c.requires.closed c.if-bound.false)
