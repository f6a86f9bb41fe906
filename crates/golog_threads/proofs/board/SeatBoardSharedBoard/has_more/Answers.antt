use Rattle.std.proofs.Common.{subst}
use Rattle.golog_turn.specs.Seats.{seen, parties_of}
use Rattle.golog_journal.specs.Boards.{IsBoardList}
use Rattle.golog_threads.proofs.Fitting.{may-ask-more, called}
use Rattle.golog_threads.proofs.board.SeatBoardSharedBoard.has_more.Goals as goal

pub act-requires-clause-allowed : goal.act-requires-clause-allowed
act-requires-clause-allowed g c o goes =
    may-ask-more g.A.Naming.agent (seen c.args.self.now.seat) (parties_of c.args.self.now.seat) o.journal.entries
    (subst (λ a. IsBoardList a o.journal.entries) o.named o.lawful) goes c.args.since

pub returns : goal.returns
returns g c =
    called _ g.A.Naming.agent _ _ _ _ _ _ _ c.in-OfMore.ensures.acted.0 (λ point added says. says) c.in-OfMore.ensures.acted.1
