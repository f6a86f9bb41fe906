use Rattle.std.proofs.Common.{◌≡◌, ◌++◌, take}
use Rattle.golog_plan.specs.Keeping.{with_list}
use Rattle.golog_plan.specs.Recording.{Records}
use Rattle.golog_plan.proofs.driver.PlanDriver.take_all.Given as goal

abbrev pub invariant-loop-entry : goal.invariant-loop-entry
invariant-loop-entry g l = record {
  core_so : l.self.core ≡ with_list l.initial.self.core (l.initial.self.core.list ++ take l.entry-index l.entries);
  recorded : Records g.R.PlanRecord.outlet g.R.PlanRecord.stands l.initial.self.core l.initial.self.record l.self.core l.self.record;
}
