use Rattle.std.proofs.Common.{◌≡◌, ◌++◌, take}
use Rattle.golog_lead.specs.Recording.{Records}
use Rattle.golog_agent.proofs.driver.Driver.take_all.Given as goal

abbrev pub invariant-loop-entry : goal.invariant-loop-entry
invariant-loop-entry g l = record {
  core_so : l.self.core ≡ record { agent = l.initial.self.core.agent; list = l.initial.self.core.list ++ take l.entry-index l.entries };
  recorded : Records g.R.Record.outlet g.R.Record.stands l.initial.self.core l.initial.self.record l.self.core l.self.record;
}
