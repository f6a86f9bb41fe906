use Rattle.std.proofs.Common.{ap}
use Rattle.golog_journal.specs.Leading.{Outlet}
use Rattle.golog_lead.proofs.Minds.{outlet-was}
use Rattle.golog_plan.proofs.scribe.PlanScribe.turn.Goals as goal

pub returns-clause-same_reference : goal.returns-clause-same_reference
returns-clause-same_reference g c = ap (λ (o : Outlet). o.name) (outlet-was _ _ c.turn.ensures.recorded.same_outlet)

pub returns-clause-same_base : goal.returns-clause-same_base
returns-clause-same_base g c = ap (λ (o : Outlet). o.base) (outlet-was _ _ c.turn.ensures.recorded.same_outlet)

pub returns-clause-same_faults : goal.returns-clause-same_faults
returns-clause-same_faults g c = ap (λ (o : Outlet). o.faults) (outlet-was _ _ c.turn.ensures.recorded.same_outlet)

pub returns-clause-stands : goal.returns-clause-stands
returns-clause-stands g c = c.turn.ensures.recorded.stands_still
