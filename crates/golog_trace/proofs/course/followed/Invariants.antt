use Rattle.std.proofs.Common.{◌≡◌, true}
use Rattle.golog_semantics.specs.InSorts.{AreInSorts}
use Rattle.golog_semantics.specs.ProgFits.{fits}
use Rattle.golog_trace.specs.Followed.{followed}
use Rattle.golog_trace.proofs.Following.{from}
use Rattle.golog_trace.proofs.course.followed.Given as goal

abbrev pub invariant-loop-entry : goal.invariant-loop-entry
invariant-loop-entry l = record {
  rest : followed l.agent l.agent.starts l.agent.main l.entries ≡ from l.agent l.state l.left l.entries l.entry-index;
  program : fits l.agent l.left ≡ true;
  sorts : AreInSorts l.agent l.state;
}
