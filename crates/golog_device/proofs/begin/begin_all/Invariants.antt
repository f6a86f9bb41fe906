use Rattle.golog_journal.specs.Boards.{IsBoardList}
use Rattle.golog_device.specs.Turns.{SameBoard}
use Rattle.golog_device.specs.Slots.{HaveBegun, standings}
use Rattle.golog_device.proofs.begin.begin_all.Given as goal

abbrev pub invariant-loop-slot : goal.invariant-loop-slot
invariant-loop-slot g l = record {
  same : SameBoard (g.B.Board.sight l.initial.board) (g.B.Board.sight l.board);
  lawful : IsBoardList l.agent (g.B.Board.sight l.board).seen;
  begun : HaveBegun l.slot l.agent.devices l.scripts (g.B.Board.sight l.board).seen (standings g.D.Device.fresh g.D.Device.meaning l.initial.devices)
      (standings g.D.Device.fresh g.D.Device.meaning l.devices);
}
