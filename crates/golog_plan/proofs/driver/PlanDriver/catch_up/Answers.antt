use Rattle.std.proofs.Common.{refl, ap}
use Rattle.golog_lead.proofs.Copying.{batch-lawful, batch-of-devices, copies-done, copies-first, copies-next, copies-shorter}
use Rattle.golog_plan.specs.Keeping.{course_of}
use Rattle.golog_plan.proofs.Carrying.{records-same, records-then, same-of, same-then}
use Rattle.golog_plan.proofs.driver.PlanDriver.catch_up.Goals as goal

pub loop-more-init : goal.loop-more-init
loop-more-init g c = record {
  copies =
      copies-first (course_of c.args.self.now.core) (g.B.Board.sight c.args.board.now) (g.B.Board.sight c.has_more-more.new.self) c.len.result c.has_more-more.result
      c.requires.over c.len.ensures.number c.has_more-more.ensures;
  same = refl;
  recorded = records-same g.R.PlanRecord.outlet g.R.PlanRecord.stands c.args.self.now.core c.args.self.now.core c.args.self.now.record refl;
}

pub take_all-requires-clause-lawful : goal.take_all-requires-clause-lawful
take_all-requires-clause-lawful g c =
    batch-lawful (course_of c.args.self.now.core) (g.B.Board.sight c.args.board.now) (course_of c.loop-more.self.core) (g.B.Board.sight c.loop-more.board) c.loop-more.more c.loop-more.invariant.copies
    (g.B.Board.sight c.copy_since-batch.new.self) c.len-in-loop-more.result c.copy_since-batch.result c.len-in-loop-more.ensures.number c.copy_since-batch.ensures

pub take_all-requires-clause-of_devices : goal.take_all-requires-clause-of_devices
take_all-requires-clause-of_devices g c =
    batch-of-devices (course_of c.args.self.now.core) (g.B.Board.sight c.args.board.now) (course_of c.loop-more.self.core) (g.B.Board.sight c.loop-more.board) c.loop-more.more c.loop-more.invariant.copies
    (g.B.Board.sight c.copy_since-batch.new.self) c.len-in-loop-more.result c.copy_since-batch.result c.len-in-loop-more.ensures.number c.copy_since-batch.ensures

pub loop-more-preserved : goal.loop-more-preserved
loop-more-preserved g c = record {
  copies =
      copies-next (course_of c.args.self.now.core) (g.B.Board.sight c.args.board.now) (course_of c.loop-more.self.core) (g.B.Board.sight c.loop-more.board) c.loop-more.more c.loop-more.invariant.copies
      (g.B.Board.sight c.copy_since-batch.new.self) c.len-in-loop-more.result c.copy_since-batch.result c.len-in-loop-more.ensures.number c.copy_since-batch.ensures
      (course_of c.take_all.new.self.core) (ap course_of c.take_all.ensures.core)
      (g.B.Board.sight c.has_more-more-in-loop-more.new.self) c.len-in-loop-more-2.result c.has_more-more-in-loop-more.result c.len-in-loop-more-2.ensures.number c.has_more-more-in-loop-more.ensures;
  same =
      same-then c.args.self.now.core c.loop-more.self.core c.take_all.new.self.core c.loop-more.invariant.same
      (same-of c.loop-more.self.core c.take_all.new.self.core _ c.take_all.ensures.core);
  recorded =
      records-then g.R.PlanRecord.outlet g.R.PlanRecord.stands c.args.self.now.core c.loop-more.self.core c.take_all.new.self.core c.args.self.now.record c.loop-more.self.record c.take_all.new.self.record
      c.loop-more.invariant.recorded c.take_all.ensures.recorded;
}

pub returns-clause-same : goal.returns-clause-same
returns-clause-same g c = c.loop-more.invariant.same

pub returns-clause-current : goal.returns-clause-current
returns-clause-current g c =
    copies-done (course_of c.args.self.now.core) (g.B.Board.sight c.args.board.now) (course_of c.loop-more.self.core) (g.B.Board.sight c.loop-more.board) c.loop-more.more c.loop-more.invariant.copies c.loop-more-test.false

pub returns-clause-follows : goal.returns-clause-follows
returns-clause-follows g c = c.loop-more.invariant.copies.follows

pub loop-more-smaller : goal.loop-more-smaller
loop-more-smaller g c =
    copies-shorter (course_of c.args.self.now.core) (g.B.Board.sight c.args.board.now) (course_of c.loop-more.self.core) (g.B.Board.sight c.loop-more.board) c.loop-more.more c.loop-more.invariant.copies
    (g.B.Board.sight c.copy_since-batch.new.self) c.len-in-loop-more.result c.copy_since-batch.result c.len-in-loop-more.ensures.number c.copy_since-batch.ensures
    (course_of c.take_all.new.self.core) (ap course_of c.take_all.ensures.core) c.loop-more-test.true

pub returns-clause-recorded : goal.returns-clause-recorded
returns-clause-recorded g c = c.loop-more.invariant.recorded
