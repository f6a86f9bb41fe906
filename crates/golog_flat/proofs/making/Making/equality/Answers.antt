use Rattle.golog_tree.specs.declared.cond.Cond.TheVariants as cond
use Rattle.golog_flat.specs.Making.{IsMadeOf}
use Rattle.golog_flat.proofs.Joins.{ok-then}
use Rattle.golog_flat.proofs.Made.{made-equal}
use Rattle.golog_flat.proofs.making.Making.equality.Goals as goal

pub returns : goal.returns
returns c =
    let agent = c.args.self.now.agent.now in
    ok-then _ (IsMadeOf agent (cond.Equal c.args.sort c.args.one.now c.args.other.now) c.args.env.now c.args.negated)
    (λ k h. made-equal agent c.args.sort c.args.one.now c.args.other.now c.args.env.now c.args.negated c.in_ok-one.one c.in_ok-other.other c.in_ok-one.ensures c.in_ok-other.ensures k
    (h agent c.in_ok-one.ensures.fits c.in_ok-other.ensures.fits))
    c.equality_check.result c.equality_check.ensures
