use Rattle.std.proofs.Common.{◌-◌, length}
use Rattle.golog_semantics.specs.Journal.{longest}
use Rattle.golog_lead.specs.Recording.{Records}
use Rattle.golog_lead.proofs.Copying.{Copies}
use Rattle.golog_agent.proofs.driver.Driver.catch_up.Given as goal

-- whether entries are still lacking; the others are recorded
abbrev pub invariant-loop-more : goal.invariant-loop-more
invariant-loop-more g l = record {
  copies : Copies l.fn.self.core (g.B.Board.sight l.fn.board) l.self.core (g.B.Board.sight l.board) l.more;
  recorded : Records g.R.Record.outlet g.R.Record.stands l.fn.self.core l.fn.self.record l.self.core l.self.record;
}

abbrev pub decreases-loop-more : goal.decreases-loop-more
decreases-loop-more g l = longest - length l.self.core.list
