use Rattle.std.proofs.Common.{refl}
use Rattle.golog_agent.proofs.Committing.{end-left, end-online}
use Rattle.golog_lead.specs.Waiting.{waits}
use Rattle.golog_agent.specs.Turns.{MayAnswer}
use Rattle.golog_lead.proofs.Turning.{end-commits}
use Rattle.golog_agent.proofs.driver.Driver.commit_end.Goals as goal

pub commit-requires-clause-online : goal.commit-requires-clause-online
commit-requires-clause-online g c = end-online c.args.self.now.core.agent c.args.self.now.core.list c.args.answer c.requires.goes_on c.requires.answered

pub commit-requires-clause-left : goal.commit-requires-clause-left
commit-requires-clause-left g c = end-left c.args.self.now.core.agent c.args.self.now.core.list c.args.answer

pub returns-then-commit-clause-attempt : goal.returns-then-commit-clause-attempt
returns-then-commit-clause-attempt g c =
    end-commits waits MayAnswer c.args.self.now.core (g.B.Board.sight c.args.board.now) (g.B.Board.sight c.commit.new.board) c.requires.current c.args.answer c.commit.result
    c.if-commit.true c.requires.goes_on c.requires.answered c.commit.ensures.commits

pub commit-requires-clause-run : goal.commit-requires-clause-run
commit-requires-clause-run g c = refl
