use Rattle.std.proofs.Common.{refl, subst}
use Rattle.golog_lead.proofs.Turning.{attempt-waits, current-over}
use Rattle.golog_plan.specs.Keeping.{course_of}
use Rattle.golog_plan.specs.Next.{NextIs}
use Rattle.golog_plan.specs.Turns.{MayAnswer, does_wait}
use Rattle.golog_plan.proofs.Carrying.{records-same}
use Rattle.golog_plan.proofs.driver.PlanDriver.go_on.Goals as goal

pub returns-in-Wait-clause-attempt : goal.returns-in-Wait-clause-attempt
returns-in-Wait-clause-attempt g c =
    let core = c.args.self.now.core in
    let sight = g.B.Board.sight c.args.board.now in
    attempt-waits (does_wait core.depth core.fuel) (MayAnswer core.depth core.fuel) (course_of core) sight sight c.requires.current c.requires.goes_on
    (subst (NextIs core) c.in-Wait.is c.next.ensures)

pub returns-in-Wait-clause-behind : goal.returns-in-Wait-clause-behind
returns-in-Wait-clause-behind g c = current-over (course_of c.args.self.now.core) (g.B.Board.sight c.args.board.now) c.requires.current

pub returns-in-Wait-clause-whole : goal.returns-in-Wait-clause-whole
returns-in-Wait-clause-whole g c = c.requires.current.whole

pub returns-in-Wait-clause-recorded : goal.returns-in-Wait-clause-recorded
returns-in-Wait-clause-recorded g c = records-same g.R.PlanRecord.outlet g.R.PlanRecord.stands c.args.self.now.core c.args.self.now.core c.args.self.now.record refl

pub commit_end-requires-clause-answered : goal.commit_end-requires-clause-answered
commit_end-requires-clause-answered g c = subst (NextIs c.args.self.now.core) c.in-End.is c.next.ensures

pub commit_step-requires-clause-next : goal.commit_step-requires-clause-next
commit_step-requires-clause-next g c = subst (NextIs c.args.self.now.core) c.in-Step.is c.next.ensures

pub returns-in-End-clause-recorded : goal.returns-in-End-clause-recorded
returns-in-End-clause-recorded g c = c.commit_end.ensures.recorded

pub returns-in-Step-clause-recorded : goal.returns-in-Step-clause-recorded
returns-in-Step-clause-recorded g c = c.commit_step.ensures.recorded
