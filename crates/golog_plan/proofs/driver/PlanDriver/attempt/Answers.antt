use Rattle.golog_lead.proofs.Turning.{attempt-stands, attempt-unended, current-over, later-attempt}
use Rattle.golog_plan.specs.Keeping.{course_of}
use Rattle.golog_plan.specs.Turns.{MayAnswer, does_wait}
use Rattle.golog_plan.proofs.Carrying.{attempt-as, records-then, same-then}
use Rattle.golog_plan.proofs.driver.PlanDriver.attempt.Goals as goal

pub returns-in-Some-clause-attempt : goal.returns-in-Some-clause-attempt
returns-in-Some-clause-attempt g c =
    let core = c.args.self.now.core in
    attempt-stands (does_wait core.depth core.fuel) (MayAnswer core.depth core.fuel) (course_of core) (course_of c.catch_up.new.self.core)
    (g.B.Board.sight c.args.board.now) (g.B.Board.sight c.catch_up.new.board) c.requires.over c.catch_up.ensures.current c.catch_up.ensures.follows
    c.answer.result c.in-Some.answer c.in-Some.is c.answer.ensures

pub returns-in-Some-clause-behind : goal.returns-in-Some-clause-behind
returns-in-Some-clause-behind g c = current-over (course_of c.catch_up.new.self.core) (g.B.Board.sight c.catch_up.new.board) c.catch_up.ensures.current

pub go_on-requires-clause-goes_on : goal.go_on-requires-clause-goes_on
go_on-requires-clause-goes_on g c = attempt-unended c.catch_up.new.self.core.list c.answer.result c.in-None.is c.answer.ensures

pub returns-in-None-clause-same : goal.returns-in-None-clause-same
returns-in-None-clause-same g c = same-then c.args.self.now.core c.catch_up.new.self.core c.go_on.new.self.core c.catch_up.ensures.same c.go_on.ensures.same

pub returns-in-None-clause-attempt : goal.returns-in-None-clause-attempt
returns-in-None-clause-attempt g c =
    let core = c.args.self.now.core in
    let middle = g.B.Board.sight c.catch_up.new.board in
    let new = g.B.Board.sight c.go_on.new.board in
    later-attempt (does_wait core.depth core.fuel) (MayAnswer core.depth core.fuel) (g.B.Board.sight c.args.board.now) middle new c.requires.over.held c.catch_up.ensures.follows
    c.go_on.result (attempt-as core c.catch_up.new.self.core middle new c.go_on.result c.catch_up.ensures.same c.go_on.ensures.attempt)

pub returns-in-Some-clause-recorded : goal.returns-in-Some-clause-recorded
returns-in-Some-clause-recorded g c = c.catch_up.ensures.recorded

pub returns-in-None-clause-recorded : goal.returns-in-None-clause-recorded
returns-in-None-clause-recorded g c =
    records-then g.R.PlanRecord.outlet g.R.PlanRecord.stands c.args.self.now.core c.catch_up.new.self.core c.go_on.new.self.core c.args.self.now.record c.catch_up.new.self.record c.go_on.new.self.record
    c.catch_up.ensures.recorded c.go_on.ensures.recorded
