use Rattle.std.proofs.Common.{◌≡◌, ◌-◌, length}
use Rattle.golog_semantics.specs.Journal.{longest}
use Rattle.golog_lead.proofs.Copying.{Copies}
use Rattle.golog_plan.specs.Keeping.{course_of, with_list}
use Rattle.golog_plan.specs.Recording.{Records}
use Rattle.golog_plan.proofs.driver.PlanDriver.catch_up.Given as goal

-- whether entries are still lacking; the others are recorded
abbrev pub invariant-loop-more : goal.invariant-loop-more
invariant-loop-more g l = record {
  copies : Copies (course_of l.fn.self.core) (g.B.Board.sight l.fn.board) (course_of l.self.core) (g.B.Board.sight l.board) l.more;
  same : l.self.core ≡ with_list l.fn.self.core l.self.core.list;
  recorded : Records g.R.PlanRecord.outlet g.R.PlanRecord.stands l.fn.self.core l.fn.self.record l.self.core l.self.record;
}

abbrev pub decreases-loop-more : goal.decreases-loop-more
decreases-loop-more g l = longest - length l.self.core.list
