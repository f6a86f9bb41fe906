use Rattle.std.proofs.Common.{refl, ap}
use Rattle.golog_lead.proofs.Placing.{may-commit, moved-over, moved-overtaken, taken-commits, taken-lawful, taken-over, taken-whole}
use Rattle.golog_plan.specs.Keeping.{course_of}
use Rattle.golog_plan.proofs.Carrying.{records-same, same-of}
use Rattle.golog_plan.proofs.driver.PlanDriver.commit.Goals as goal

pub commit-requires-clause-allowed : goal.commit-requires-clause-allowed
commit-requires-clause-allowed g c =
    may-commit (course_of c.args.self.now.core) (g.B.Board.sight c.args.board.now) c.len.result c.args.entry c.requires.current c.len.ensures.number
    c.requires.goes_on c.requires.of_program c.requires.room

pub take-requires-clause-lawful : goal.take-requires-clause-lawful
take-requires-clause-lawful g c =
    taken-lawful (course_of c.args.self.now.core) (g.B.Board.sight c.args.board.now) c.len.result c.args.entry c.requires.current c.len.ensures.number
    (g.B.Board.sight c.commit.new.self) c.commit.result c.commit.ensures c.in-Taken.is

pub returns-in-Moved-clause-behind : goal.returns-in-Moved-clause-behind
returns-in-Moved-clause-behind g c =
    moved-over (course_of c.args.self.now.core) (g.B.Board.sight c.args.board.now) c.len.result c.args.entry c.requires.current c.len.ensures.number
    (g.B.Board.sight c.commit.new.self) c.commit.result c.commit.ensures c.in-Moved.longer c.in-Moved.is

pub returns-in-Moved-clause-commits : goal.returns-in-Moved-clause-commits
returns-in-Moved-clause-commits g c =
    moved-overtaken (course_of c.args.self.now.core) (g.B.Board.sight c.args.board.now) c.len.result c.args.entry c.requires.current c.len.ensures.number
    (g.B.Board.sight c.commit.new.self) c.commit.result c.commit.ensures c.in-Moved.longer c.in-Moved.is

pub returns-in-Moved-clause-recorded : goal.returns-in-Moved-clause-recorded
returns-in-Moved-clause-recorded g c = records-same g.R.PlanRecord.outlet g.R.PlanRecord.stands c.args.self.now.core c.args.self.now.core c.args.self.now.record refl

pub returns-in-Taken-clause-same : goal.returns-in-Taken-clause-same
returns-in-Taken-clause-same g c = same-of c.args.self.now.core c.take.new.self.core _ c.take.ensures.core

pub returns-in-Taken-clause-commits : goal.returns-in-Taken-clause-commits
returns-in-Taken-clause-commits g c =
    taken-commits (course_of c.args.self.now.core) (g.B.Board.sight c.args.board.now) c.len.result c.args.entry c.requires.current c.len.ensures.number
    (g.B.Board.sight c.commit.new.self) c.commit.result c.commit.ensures c.in-Taken.is

pub returns-in-Taken-clause-behind : goal.returns-in-Taken-clause-behind
returns-in-Taken-clause-behind g c =
    taken-over (course_of c.args.self.now.core) (g.B.Board.sight c.args.board.now) c.len.result c.args.entry c.requires.current c.len.ensures.number
    (g.B.Board.sight c.commit.new.self) c.commit.result c.commit.ensures c.in-Taken.is (course_of c.take.new.self.core) (ap course_of c.take.ensures.core)

pub returns-in-Taken-clause-whole : goal.returns-in-Taken-clause-whole
returns-in-Taken-clause-whole g c e =
    taken-whole (course_of c.args.self.now.core) (g.B.Board.sight c.args.board.now) c.len.result c.args.entry c.requires.current c.len.ensures.number
    (g.B.Board.sight c.commit.new.self) c.commit.result c.commit.ensures c.in-Taken.is (course_of c.take.new.self.core) (ap course_of c.take.ensures.core)

pub returns-in-Taken-clause-recorded : goal.returns-in-Taken-clause-recorded
returns-in-Taken-clause-recorded g c = c.take.ensures.recorded
