use Rattle.golog_lead.specs.Waiting.{waits}
use Rattle.golog_agent.specs.Turns.{MayAnswer}
use Rattle.golog_lead.proofs.Turning.{attempt-stands, attempt-unended, current-over, later-attempt}
use Rattle.golog_lead.proofs.Recorded.{records-then}
use Rattle.golog_agent.proofs.driver.Driver.attempt.Goals as goal

pub returns-in-Some-clause-attempt : goal.returns-in-Some-clause-attempt
returns-in-Some-clause-attempt g c =
    attempt-stands waits MayAnswer c.args.self.now.core c.catch_up.new.self.core (g.B.Board.sight c.args.board.now) (g.B.Board.sight c.catch_up.new.board) c.requires.over c.catch_up.ensures.current c.catch_up.ensures.follows
    c.answer.result c.in-Some.answer c.in-Some.is c.answer.ensures

pub returns-in-Some-clause-behind : goal.returns-in-Some-clause-behind
returns-in-Some-clause-behind g c = current-over c.catch_up.new.self.core (g.B.Board.sight c.catch_up.new.board) c.catch_up.ensures.current

pub go_on-requires-clause-goes_on : goal.go_on-requires-clause-goes_on
go_on-requires-clause-goes_on g c =
    attempt-unended c.catch_up.new.self.core.list c.answer.result c.in-None.is c.answer.ensures

pub returns-in-None-clause-attempt : goal.returns-in-None-clause-attempt
returns-in-None-clause-attempt g c =
    later-attempt waits MayAnswer (g.B.Board.sight c.args.board.now) (g.B.Board.sight c.catch_up.new.board) (g.B.Board.sight c.go_on.new.board) c.requires.over.held
    c.catch_up.ensures.follows c.go_on.result c.go_on.ensures.attempt

pub returns-in-Some-clause-recorded : goal.returns-in-Some-clause-recorded
returns-in-Some-clause-recorded g c = c.catch_up.ensures.recorded

pub returns-in-None-clause-recorded : goal.returns-in-None-clause-recorded
returns-in-None-clause-recorded g c =
    records-then g.R.Record.outlet g.R.Record.stands c.args.self.now.core c.catch_up.new.self.core c.go_on.new.self.core c.args.self.now.record c.catch_up.new.self.record c.go_on.new.self.record
    c.catch_up.ensures.recorded c.go_on.ensures.recorded
