use Rattle.std.proofs.Common.{refl, ap}
use Rattle.golog_semantics.specs.declared.journal.Entry.TheVariants.{Do}
use Rattle.golog_lead.proofs.Taking.{taken-lawful, taken-of-device}
use Rattle.golog_plan.specs.Keeping.{course_of}
use Rattle.golog_plan.proofs.Carrying.{records-same, records-then, taken-more, taken-none}
use Rattle.golog_plan.proofs.Committing.{device-given, device-planned, device-tail}
use Rattle.golog_plan.proofs.driver.PlanDriver.take_all.Goals as goal

pub take-requires-clause-lawful : goal.take-requires-clause-lawful
take-requires-clause-lawful g c =
    taken-lawful (course_of c.args.self.now.core) c.args.entries.now c.loop-entry.entry-index (Do 0) c.loop-entry-test.true (course_of c.loop-entry.self.core)
    (ap course_of c.loop-entry.invariant.core_so) c.requires.lawful

pub take-requires-clause-planned : goal.take-requires-clause-planned
take-requires-clause-planned g c =
    device-planned c.loop-entry.self.core _
    (taken-of-device (course_of c.args.self.now.core) c.args.entries.now c.loop-entry.entry-index (Do 0) c.loop-entry-test.true c.requires.of_devices)
    (taken-lawful (course_of c.args.self.now.core) c.args.entries.now c.loop-entry.entry-index (Do 0) c.loop-entry-test.true (course_of c.loop-entry.self.core)
    (ap course_of c.loop-entry.invariant.core_so) c.requires.lawful)

pub take-requires-clause-kept : goal.take-requires-clause-kept
take-requires-clause-kept g c =
    device-given c.loop-entry.self.core _
    (taken-of-device (course_of c.args.self.now.core) c.args.entries.now c.loop-entry.entry-index (Do 0) c.loop-entry-test.true c.requires.of_devices)

pub take-requires-clause-tail : goal.take-requires-clause-tail
take-requires-clause-tail g c =
    device-tail c.loop-entry.self.core _
    (taken-of-device (course_of c.args.self.now.core) c.args.entries.now c.loop-entry.entry-index (Do 0) c.loop-entry-test.true c.requires.of_devices)

pub loop-entry-init : goal.loop-entry-init
loop-entry-init g c = record {
  core_so = taken-none c.args.self.now.core c.args.entries.now;
  recorded = records-same g.R.PlanRecord.outlet g.R.PlanRecord.stands c.args.self.now.core c.args.self.now.core c.args.self.now.record refl;
}

pub loop-entry-preserved : goal.loop-entry-preserved
loop-entry-preserved g c = record {
  core_so =
      taken-more c.args.self.now.core c.args.entries.now c.loop-entry.entry-index (Do 0) c.loop-entry-test.true c.loop-entry.self.core c.take.new.self.core
      c.loop-entry.invariant.core_so c.take.ensures.core;
  recorded =
      records-then g.R.PlanRecord.outlet g.R.PlanRecord.stands c.args.self.now.core c.loop-entry.self.core c.take.new.self.core c.args.self.now.record c.loop-entry.self.record c.take.new.self.record
      c.loop-entry.invariant.recorded c.take.ensures.recorded;
}

pub returns-clause-recorded : goal.returns-clause-recorded
returns-clause-recorded g c = c.loop-entry.invariant.recorded
