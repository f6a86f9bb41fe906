use Rattle.std.proofs.Common.{false, subst}
use Rattle.std.proofs.lemmas.Bool.{false≢true}
use Rattle.golog_flat.specs.Making.{IsMadeOf}
use Rattle.golog_flat.proofs.Parts.{closed_fits}
use Rattle.golog_flat.proofs.check.Check.within.Goals as goal

pub invariant_of-making : goal.invariant_of-making
invariant_of-making c = record { countable = c.requires.agent.countable }

pub check_of-requires : goal.check_of-requires
check_of-requires c = record {
  fits = closed_fits c.args.agent.now c.args.cond.now c.new.result c.requires.closed;
  closed = λ e. c.requires.closed;
  empty = λ e. c.new.ensures;
}

pub returns-in-Ok : goal.returns-in-Ok
returns-in-Ok c = subst (λ v. IsMadeOf c.args.agent.now c.args.cond.now v false c.in-Ok.check) c.new.ensures c.in-Ok.ensures.made

pub unreachable-requires : goal.unreachable-requires
unreachable-requires c = false≢true (c.in-Err-Bound.ensures.stop c.in-Err-Bound.field-0-is)
