use Rattle.std.proofs.Common.{Option, subst}
use Rattle.golog_rows.specs.declared.least.Refusal.{Refusal}
use Rattle.golog_rows.specs.Least.{IsLeastOf}
use Rattle.golog_rows.proofs.LeastLaws.{alone, first-stays, second-comes}
use Rattle.golog_rows.proofs.least.lesser.Goals as goal

pub returns-in-Some : goal.returns-in-Some
returns-in-Some c = λ before is.
    first-stays _ _ _ _ before _ (subst (λ (o : Option Refusal). IsLeastOf o before) c.in-Some.is is)
    (alone c.args.other.code c.args.other.at) (c.is_no_later.ensures.yes c.if-is_no_later.true)

pub returns-in_default : goal.returns-in_default
returns-in_default c = λ before is.
    second-comes _ _ _ _ before _ (subst (λ (o : Option Refusal). IsLeastOf o before) c.in-Some.is is)
    (alone c.args.other.code c.args.other.at) (c.is_no_later.ensures.no c.if-is_no_later.false)
