use Rattle.golog_thread_tests.proofs.Looking.{looks, may-test, moved-none}
use Rattle.golog_thread_tests.proofs.meeting.test_early.Goals as goal

pub commit-requires-clause-allowed : goal.commit-requires-clause-allowed
commit-requires-clause-allowed g c =
    let s = g.B.Board.sight c.args.board.now in may-test s.agent s.seen c.requires.some c.requires.goes_on

pub returns : goal.returns
returns g c =
    looks _ _ _ c.commit.ensures c.requires.held
    (moved-none (g.B.Board.sight c.args.board.now).agent _ _ c.commit.result c.commit.ensures c.requires.some)
