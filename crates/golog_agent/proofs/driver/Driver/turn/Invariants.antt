use Rattle.std.proofs.Common.{◌-◌, length}
use Rattle.golog_semantics.specs.Journal.{longest}
use Rattle.golog_lead.specs.Recording.{Records}
use Rattle.golog_lead.proofs.Turning.{Attempts}
use Rattle.golog_agent.proofs.driver.Driver.turn.Given as goal

-- others have added entries, which are recorded, and nothing was committed yet
abbrev pub invariant-loop-stepped : goal.invariant-loop-stepped
invariant-loop-stepped g l = record {
  attempts : Attempts l.fn.self.core (g.B.Board.sight l.fn.board) l.self.core (g.B.Board.sight l.board);
  recorded : Records g.R.Record.outlet g.R.Record.stands l.fn.self.core l.fn.self.record l.self.core l.self.record;
}

abbrev pub decreases-loop-stepped : goal.decreases-loop-stepped
decreases-loop-stepped g l = longest - length (g.B.Board.sight l.board).seen
