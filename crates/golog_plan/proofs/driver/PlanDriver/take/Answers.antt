use Rattle.std.proofs.Common.{sym, ◌∙◌, subst}
use Rattle.golog_plan.specs.Keeping.{PlanCourse}
use Rattle.golog_plan.proofs.driver.PlanDriver.take.Goals as goal

pub keep-requires-clause-tail : goal.keep-requires-clause-tail
keep-requires-clause-tail g c = c.as_ref.ensures.value ∙ c.requires.tail

pub returns-clause-recorded : goal.returns-clause-recorded
returns-clause-recorded g c = record {
  same_outlet = c.keep.ensures.outlet;
  stands_still = λ stood. subst (λ (v : PlanCourse). g.R.PlanRecord.stands v c.keep.new.self) (sym c.take.ensures) (c.keep.ensures.stands stood);
}
