use Rattle.std.proofs.Common.{◌≡◌, length}
use Rattle.golog_journal.specs.Boards.{IsBoardList}
use Rattle.golog_device.specs.Turns.{SameBoard}
use Rattle.golog_device.specs.Slots.{standings}
use Rattle.golog_lead.specs.Moments.{TurnsMade}
use Rattle.golog_lead.proofs.rounds.turns.Given as goal

-- the first devices have had their turns
abbrev pub invariant-loop-slot : goal.invariant-loop-slot
invariant-loop-slot g l = record {
  same : SameBoard (g.B.Board.sight l.initial.board) (g.B.Board.sight l.board);
  lawful : IsBoardList l.agent (g.B.Board.sight l.board).seen;
  room : length l.taken ≡ 16;
  made : TurnsMade l.agent l.slot
      (record { journal = (g.B.Board.sight l.initial.board).seen; taken = l.initial.taken; standings = standings g.D.Device.fresh g.D.Device.meaning l.initial.devices })
      (record { journal = (g.B.Board.sight l.board).seen; taken = l.taken; standings = standings g.D.Device.fresh g.D.Device.meaning l.devices });
}
