use Rattle.std.proofs.Common.{◌≡◌, ◌-◌, length}
use Rattle.golog_semantics.specs.Journal.{longest}
use Rattle.golog_lead.proofs.Turning.{Attempts}
use Rattle.golog_plan.specs.Keeping.{course_of, with_list}
use Rattle.golog_plan.specs.Recording.{Records}
use Rattle.golog_plan.proofs.driver.PlanDriver.turn.Given as goal

-- others have added entries, which are recorded, and nothing was committed yet
abbrev pub invariant-loop-stepped : goal.invariant-loop-stepped
invariant-loop-stepped g l = record {
  attempts : Attempts (course_of l.fn.self.core) (g.B.Board.sight l.fn.board) (course_of l.self.core) (g.B.Board.sight l.board);
  same : l.self.core ≡ with_list l.fn.self.core l.self.core.list;
  recorded : Records g.R.PlanRecord.outlet g.R.PlanRecord.stands l.fn.self.core l.fn.self.record l.self.core l.self.record;
}

abbrev pub decreases-loop-stepped : goal.decreases-loop-stepped
decreases-loop-stepped g l = longest - length (g.B.Board.sight l.board).seen
