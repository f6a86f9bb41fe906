use Rattle.std.proofs.Common.{◌≡◌, ◌≤◌, ◌+◌, ◌-◌, length}
use Rattle.std.specs.List.{sum}
use Rattle.golog_semantics.specs.Journal.{longest, limit}
use Rattle.golog_journal.specs.Boards.{IsBoardList}
use Rattle.golog_journal.specs.Leading.{SameMind}
use Rattle.golog_device.specs.Turns.{SameBoard}
use Rattle.golog_device.specs.Slots.{standings}
use Rattle.golog_lead.specs.Moments.{RoundsMade}
use Rattle.golog_lead.proofs.rounds.run_inline.Given as goal

-- so many rounds were made
abbrev pub invariant-loop-taken : goal.invariant-loop-taken
invariant-loop-taken g l = record {
  same_mind : SameMind (g.L.Lead.mind l.initial.lead) (g.L.Lead.mind l.lead);
  stands : (g.L.Lead.stands l.initial.lead → g.L.Lead.stands l.lead);
  same_agent : (g.L.Lead.mind l.lead).agent ≡ l.agent;
  same : SameBoard (g.B.Board.sight l.initial.board) (g.B.Board.sight l.board);
  lawful : IsBoardList l.agent (g.B.Board.sight l.board).seen;
  whole : (g.L.Lead.mind l.lead).list ≡ (g.B.Board.sight l.board).seen;
  short : length (g.B.Board.sight l.board).seen ≤ longest;
  made : RoundsMade l.agent (g.L.RoundLead.alone (g.L.Lead.mind l.initial.lead).bounds l.agent) g.L.RoundLead.short
      (record { journal = (g.B.Board.sight l.initial.board).seen; taken = l.initial.taken; standings = standings g.D.Device.fresh g.D.Device.meaning l.initial.devices })
      (record { journal = (g.B.Board.sight l.board).seen; taken = l.taken; standings = standings g.D.Device.fresh g.D.Device.meaning l.devices });
}

abbrev pub decreases-loop-taken : goal.decreases-loop-taken
decreases-loop-taken g l = (longest + limit + 1) - (length (g.B.Board.sight l.board).seen + sum l.taken)
