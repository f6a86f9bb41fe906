use Rattle.std.proofs.Common.{refl}
use Rattle.golog_lead.specs.Waiting.{waits}
use Rattle.golog_agent.specs.Turns.{MayAnswer}
use Rattle.golog_lead.proofs.Turning.{attempts-first, attempts-next, attempts-shorter, attempts-turn, attempts-whole}
use Rattle.golog_lead.proofs.Recorded.{records-same, records-then}
use Rattle.golog_agent.proofs.driver.Driver.turn.Goals as goal

pub loop-stepped-init : goal.loop-stepped-init
loop-stepped-init g c = record {
  attempts = attempts-first c.args.self.now.core (g.B.Board.sight c.args.board.now) c.requires.agent c.requires.held c.requires.behind;
  recorded = records-same g.R.Record.outlet g.R.Record.stands c.args.self.now.core c.args.self.now.core c.args.self.now.record refl;
}

pub loop-stepped-preserved : goal.loop-stepped-preserved
loop-stepped-preserved g c = record {
  attempts =
      attempts-next waits MayAnswer c.args.self.now.core (g.B.Board.sight c.args.board.now) c.loop-stepped.self.core c.attempt.new.self.core (g.B.Board.sight c.loop-stepped.board) (g.B.Board.sight c.attempt.new.board)
      c.loop-stepped.invariant.attempts c.attempt.ensures.same
      c.attempt.result c.in_default.is c.attempt.ensures.attempt c.attempt.ensures.behind;
  recorded =
      records-then g.R.Record.outlet g.R.Record.stands c.args.self.now.core c.loop-stepped.self.core c.attempt.new.self.core c.args.self.now.record c.loop-stepped.self.record c.attempt.new.self.record
      c.loop-stepped.invariant.recorded c.attempt.ensures.recorded;
}

pub returns-in-Some-clause-turn : goal.returns-in-Some-clause-turn
returns-in-Some-clause-turn g c =
    attempts-turn waits MayAnswer (g.B.Board.sight c.args.board.now) (g.B.Board.sight c.loop-stepped.board) (g.B.Board.sight c.attempt.new.board)
    c.loop-stepped.invariant.attempts.held c.loop-stepped.invariant.attempts.follows
    c.attempt.result c.in-Some.stepped c.in-Some.is c.attempt.ensures.attempt

pub loop-stepped-smaller : goal.loop-stepped-smaller
loop-stepped-smaller g c =
    attempts-shorter waits MayAnswer (g.B.Board.sight c.args.board.now) (g.B.Board.sight c.loop-stepped.board) (g.B.Board.sight c.attempt.new.board)
    c.attempt.result c.in_default.is c.attempt.ensures.attempt

pub returns-in-Some-clause-whole : goal.returns-in-Some-clause-whole
returns-in-Some-clause-whole g c =
    attempts-whole c.attempt.new.self.core (g.B.Board.sight c.attempt.new.board)
    c.attempt.result c.in-Some.stepped c.in-Some.is c.attempt.ensures.whole

pub returns-in-Some-clause-recorded : goal.returns-in-Some-clause-recorded
returns-in-Some-clause-recorded g c =
    records-then g.R.Record.outlet g.R.Record.stands c.args.self.now.core c.loop-stepped.self.core c.attempt.new.self.core c.args.self.now.record c.loop-stepped.self.record c.attempt.new.self.record
    c.loop-stepped.invariant.recorded c.attempt.ensures.recorded
