use Rattle.std.proofs.Common.{refl}
use Rattle.golog_semantics.specs.declared.journal.Entry.TheVariants.{Do}
use Rattle.golog_lead.proofs.Taking.{taken-lawful, taken-more, taken-none}
use Rattle.golog_agent.proofs.Taking.{taken-left, taken-online, taken-room, taken-run}
use Rattle.golog_lead.proofs.Recorded.{records-same, records-then}
use Rattle.golog_agent.proofs.driver.Driver.take_all.Goals as goal

pub take-requires-clause-lawful : goal.take-requires-clause-lawful
take-requires-clause-lawful g c =
    taken-lawful c.args.self.now.core c.args.entries.now c.loop-entry.entry-index (Do 0) c.loop-entry-test.true c.loop-entry.self.core c.loop-entry.invariant.core_so c.requires.lawful

pub take-requires-clause-online : goal.take-requires-clause-online
take-requires-clause-online g c =
    taken-online c.args.self.now.core c.args.entries.now c.loop-entry.entry-index (Do 0) c.loop-entry-test.true c.loop-entry.self.core c.loop-entry.invariant.core_so c.requires.lawful
    c.requires.of_devices

pub take-requires-clause-left : goal.take-requires-clause-left
take-requires-clause-left g c =
    taken-left c.args.self.now.core c.args.entries.now c.loop-entry.entry-index (Do 0) c.loop-entry-test.true c.loop-entry.self.core c.loop-entry.invariant.core_so c.requires.of_devices

pub take-requires-clause-room : goal.take-requires-clause-room
take-requires-clause-room g c =
    taken-room c.args.self.now.core c.args.entries.now c.loop-entry.entry-index (Do 0) c.loop-entry-test.true c.loop-entry.self.core c.loop-entry.invariant.core_so c.requires.of_devices

pub take-requires-clause-run : goal.take-requires-clause-run
take-requires-clause-run g c =
    taken-run c.args.self.now.core c.args.entries.now c.loop-entry.entry-index (Do 0) c.loop-entry-test.true c.loop-entry.self.core c.loop-entry.invariant.core_so c.requires.of_devices

pub loop-entry-init : goal.loop-entry-init
loop-entry-init g c = record {
  core_so = taken-none c.args.self.now.core c.args.entries.now;
  recorded = records-same g.R.Record.outlet g.R.Record.stands c.args.self.now.core c.args.self.now.core c.args.self.now.record refl;
}

pub loop-entry-preserved : goal.loop-entry-preserved
loop-entry-preserved g c = record {
  core_so =
      taken-more c.args.self.now.core c.args.entries.now c.loop-entry.entry-index (Do 0) c.loop-entry-test.true c.loop-entry.self.core c.loop-entry.invariant.core_so
      c.take.new.self.core c.take.ensures.core;
  recorded =
      records-then g.R.Record.outlet g.R.Record.stands c.args.self.now.core c.loop-entry.self.core c.take.new.self.core c.args.self.now.record c.loop-entry.self.record c.take.new.self.record
      c.loop-entry.invariant.recorded c.take.ensures.recorded;
}

pub returns-clause-recorded : goal.returns-clause-recorded
returns-clause-recorded g c = c.loop-entry.invariant.recorded
