use Rattle.golog_lead.specs.Waiting.{waits}
use Rattle.golog_agent.specs.Turns.{MayAnswer}
use Rattle.golog_lead.proofs.Turning.{entry-commits}
use Rattle.golog_agent.proofs.Stepping.{entry-left, entry-online, entry-own, entry-room, entry-run}
use Rattle.golog_agent.proofs.driver.Driver.commit_step.Goals as goal

pub commit-requires-clause-of_program : goal.commit-requires-clause-of_program
commit-requires-clause-of_program g c = entry-own c.args.self.now.core.agent c.args.self.now.core.list c.args.step c.requires.next c.entry_of.result c.entry_of.ensures c.keeps_rules.ensures.under_way

pub commit-requires-clause-room : goal.commit-requires-clause-room
commit-requires-clause-room g c = entry-room c.args.self.now.core.agent c.args.self.now.core.list c.args.step c.requires.next c.entry_of.result c.entry_of.ensures

pub commit-requires-clause-online : goal.commit-requires-clause-online
commit-requires-clause-online g c = entry-online c.args.self.now.core.agent c.args.self.now.core.list c.args.step c.requires.next c.entry_of.result c.entry_of.ensures c.requires.goes_on

pub commit-requires-clause-left : goal.commit-requires-clause-left
commit-requires-clause-left g c = entry-left c.args.self.now.core.agent c.args.self.now.core.list c.args.step c.requires.next c.entry_of.result c.entry_of.ensures

pub returns-then-commit-clause-attempt : goal.returns-then-commit-clause-attempt
returns-then-commit-clause-attempt g c =
    entry-commits waits MayAnswer c.args.step.label c.entry_of.result c.entry_of.ensures
    (g.B.Board.sight c.args.board.now) (g.B.Board.sight c.commit.new.board) c.commit.result c.if-commit.true c.commit.ensures.commits

pub commit-requires-clause-run : goal.commit-requires-clause-run
commit-requires-clause-run g c = entry-run c.args.self.now.core.agent c.args.self.now.core.list c.args.step c.requires.next c.entry_of.result c.entry_of.ensures

pub commit-requires-clause-next : goal.commit-requires-clause-next
commit-requires-clause-next g c = c.requires.next
