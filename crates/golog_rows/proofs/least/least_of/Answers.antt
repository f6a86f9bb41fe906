use Rattle.std.proofs.Common.{Option, subst}
use Rattle.golog_rows.specs.declared.least.Refusal.{Refusal}
use Rattle.golog_rows.specs.Least.{IsLeastOf}
use Rattle.golog_rows.proofs.LeastLaws.{first-stays, second-comes}
use Rattle.golog_rows.proofs.least.least_of.Goals as goal

pub returns-in-Some-Some : goal.returns-in-Some-Some
returns-in-Some-Some c = λ before after one other.
    first-stays _ _ _ _ before after
    (subst (λ (o : Option Refusal). IsLeastOf o before) c.in-Some-Some.is-0 one)
    (subst (λ (o : Option Refusal). IsLeastOf o after) c.in-Some-Some.is-1 other)
    (c.is_no_later.ensures.yes c.if-is_no_later.true)

pub returns-in_default : goal.returns-in_default
returns-in_default c = λ before after one other.
    second-comes _ _ _ _ before after
    (subst (λ (o : Option Refusal). IsLeastOf o before) c.in-Some-Some.is-0 one)
    (subst (λ (o : Option Refusal). IsLeastOf o after) c.in-Some-Some.is-1 other)
    (c.is_no_later.ensures.no c.if-is_no_later.false)
