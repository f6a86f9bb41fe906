use Rattle.std.proofs.Common.{sym, subst}
use Rattle.golog_lead.specs.Courses.{Course}
use Rattle.golog_lead.specs.Seeing.{IsOver}
use Rattle.golog_lead.proofs.Placing.{may-commit, moved-over, moved-overtaken, taken-commits, taken-lawful, taken-over, taken-whole}
use Rattle.golog_lead.proofs.BegunRuns.{step-counts}
use Rattle.golog_lead.proofs.Recorded.{records-same}
use Rattle.golog_agent.proofs.driver.Driver.commit.Goals as goal

pub commit-requires-clause-allowed : goal.commit-requires-clause-allowed
commit-requires-clause-allowed g c =
    may-commit c.args.self.now.core (g.B.Board.sight c.args.board.now) c.len-at.result c.args.entry c.requires.current c.len-at.ensures.number
    c.requires.goes_on c.requires.of_program c.requires.room

pub take-requires-clause-lawful : goal.take-requires-clause-lawful
take-requires-clause-lawful g c =
    taken-lawful c.args.self.now.core (g.B.Board.sight c.args.board.now) c.len-at.result c.args.entry c.requires.current c.len-at.ensures.number
    (g.B.Board.sight c.commit.new.self) c.commit.result c.commit.ensures c.in-Taken.is

pub take-requires-clause-room : goal.take-requires-clause-room
take-requires-clause-room g c step = c.requires.room (step-counts c.args.self.now.core.agent c.args.entry step)

pub returns-in-Moved-clause-behind : goal.returns-in-Moved-clause-behind
returns-in-Moved-clause-behind g c =
    subst (λ (v : Course). IsOver v (g.B.Board.sight c.commit.new.self)) (sym c.keep_step.ensures)
    (moved-over c.args.self.now.core (g.B.Board.sight c.args.board.now) c.len-at.result c.args.entry c.requires.current c.len-at.ensures.number
    (g.B.Board.sight c.commit.new.self) c.commit.result c.commit.ensures c.in-Moved.longer c.in-Moved.is)

pub returns-in-Moved-clause-commits : goal.returns-in-Moved-clause-commits
returns-in-Moved-clause-commits g c =
    moved-overtaken c.args.self.now.core (g.B.Board.sight c.args.board.now) c.len-at.result c.args.entry c.requires.current c.len-at.ensures.number
    (g.B.Board.sight c.commit.new.self) c.commit.result c.commit.ensures c.in-Moved.longer c.in-Moved.is

pub returns-in-Taken-clause-commits : goal.returns-in-Taken-clause-commits
returns-in-Taken-clause-commits g c =
    taken-commits c.args.self.now.core (g.B.Board.sight c.args.board.now) c.len-at.result c.args.entry c.requires.current c.len-at.ensures.number
    (g.B.Board.sight c.commit.new.self) c.commit.result c.commit.ensures c.in-Taken.is

pub returns-in-Taken-clause-behind : goal.returns-in-Taken-clause-behind
returns-in-Taken-clause-behind g c =
    taken-over c.args.self.now.core (g.B.Board.sight c.args.board.now) c.len-at.result c.args.entry c.requires.current c.len-at.ensures.number
    (g.B.Board.sight c.commit.new.self) c.commit.result c.commit.ensures c.in-Taken.is c.take.new.self.core c.take.ensures.core

pub returns-in-Taken-clause-whole : goal.returns-in-Taken-clause-whole
returns-in-Taken-clause-whole g c e =
    taken-whole c.args.self.now.core (g.B.Board.sight c.args.board.now) c.len-at.result c.args.entry c.requires.current c.len-at.ensures.number
    (g.B.Board.sight c.commit.new.self) c.commit.result c.commit.ensures c.in-Taken.is c.take.new.self.core c.take.ensures.core

pub returns-in-Taken-clause-recorded : goal.returns-in-Taken-clause-recorded
returns-in-Taken-clause-recorded g c = c.take.ensures.recorded

pub returns-in-Moved-clause-recorded : goal.returns-in-Moved-clause-recorded
returns-in-Moved-clause-recorded g c = records-same g.R.Record.outlet g.R.Record.stands c.args.self.now.core c.keep_step.new.self c.args.self.now.record c.keep_step.ensures
