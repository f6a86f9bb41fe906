use Rattle.std.proofs.Common.{refl, ap}
use Rattle.golog_lead.proofs.Turning.{attempts-first, attempts-next, attempts-shorter, attempts-turn, attempts-whole}
use Rattle.golog_plan.specs.Keeping.{PlanCourse, course_of}
use Rattle.golog_plan.specs.Turns.{MayAnswer, does_wait}
use Rattle.golog_plan.proofs.Carrying.{attempt-as, records-same, records-then, same-then}
use Rattle.golog_plan.proofs.driver.PlanDriver.turn.Goals as goal

pub loop-stepped-init : goal.loop-stepped-init
loop-stepped-init g c = record {
  attempts = attempts-first (course_of c.args.self.now.core) (g.B.Board.sight c.args.board.now) c.requires.agent c.requires.held c.requires.behind;
  same = refl;
  recorded = records-same g.R.PlanRecord.outlet g.R.PlanRecord.stands c.args.self.now.core c.args.self.now.core c.args.self.now.record refl;
}

pub loop-stepped-preserved : goal.loop-stepped-preserved
loop-stepped-preserved g c =
    let core = c.loop-stepped.self.core in
    record {
      attempts =
          attempts-next (does_wait core.depth core.fuel) (MayAnswer core.depth core.fuel) (course_of c.args.self.now.core) (g.B.Board.sight c.args.board.now) (course_of core)
          (course_of c.attempt.new.self.core) (g.B.Board.sight c.loop-stepped.board) (g.B.Board.sight c.attempt.new.board)
          c.loop-stepped.invariant.attempts (ap (λ (v : PlanCourse). v.agent) c.attempt.ensures.same)
          c.attempt.result c.in_default.is c.attempt.ensures.attempt c.attempt.ensures.behind;
      same = same-then c.args.self.now.core core c.attempt.new.self.core c.loop-stepped.invariant.same c.attempt.ensures.same;
      recorded =
          records-then g.R.PlanRecord.outlet g.R.PlanRecord.stands c.args.self.now.core core c.attempt.new.self.core c.args.self.now.record c.loop-stepped.self.record c.attempt.new.self.record
          c.loop-stepped.invariant.recorded c.attempt.ensures.recorded;
    }

pub returns-in-Some-clause-same : goal.returns-in-Some-clause-same
returns-in-Some-clause-same g c = same-then c.args.self.now.core c.loop-stepped.self.core c.attempt.new.self.core c.loop-stepped.invariant.same c.attempt.ensures.same

pub returns-in-Some-clause-turn : goal.returns-in-Some-clause-turn
returns-in-Some-clause-turn g c =
    let first = c.args.self.now.core in
    let old = g.B.Board.sight c.loop-stepped.board in
    let new = g.B.Board.sight c.attempt.new.board in
    attempts-turn (does_wait first.depth first.fuel) (MayAnswer first.depth first.fuel) (g.B.Board.sight c.args.board.now) old new
    c.loop-stepped.invariant.attempts.held c.loop-stepped.invariant.attempts.follows
    c.attempt.result c.in-Some.stepped c.in-Some.is
    (attempt-as first c.loop-stepped.self.core old new c.attempt.result c.loop-stepped.invariant.same c.attempt.ensures.attempt)

pub loop-stepped-smaller : goal.loop-stepped-smaller
loop-stepped-smaller g c =
    let core = c.loop-stepped.self.core in
    attempts-shorter (does_wait core.depth core.fuel) (MayAnswer core.depth core.fuel) (g.B.Board.sight c.args.board.now) (g.B.Board.sight c.loop-stepped.board) (g.B.Board.sight c.attempt.new.board)
    c.attempt.result c.in_default.is c.attempt.ensures.attempt

pub returns-in-Some-clause-whole : goal.returns-in-Some-clause-whole
returns-in-Some-clause-whole g c =
    attempts-whole (course_of c.attempt.new.self.core) (g.B.Board.sight c.attempt.new.board) c.attempt.result c.in-Some.stepped c.in-Some.is c.attempt.ensures.whole

pub returns-in-Some-clause-planned : goal.returns-in-Some-clause-planned
returns-in-Some-clause-planned g c = c.keeps_rules.ensures.followed.planned

pub returns-in-Some-clause-recorded : goal.returns-in-Some-clause-recorded
returns-in-Some-clause-recorded g c =
    records-then g.R.PlanRecord.outlet g.R.PlanRecord.stands c.args.self.now.core c.loop-stepped.self.core c.attempt.new.self.core c.args.self.now.record c.loop-stepped.self.record c.attempt.new.self.record
    c.loop-stepped.invariant.recorded c.attempt.ensures.recorded
