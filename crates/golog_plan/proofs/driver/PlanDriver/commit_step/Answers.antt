use Rattle.golog_lead.proofs.Turning.{entry-commits}
use Rattle.golog_plan.specs.Turns.{MayAnswer, does_wait}
use Rattle.golog_plan.proofs.Committing.{step-given, step-own, step-planned, step-room, step-tail}
use Rattle.golog_plan.proofs.driver.PlanDriver.commit_step.Goals as goal

pub commit-requires-clause-of_program : goal.commit-requires-clause-of_program
commit-requires-clause-of_program g c = step-own c.args.self.now.core c.args.begun c.requires.next c.entry_of.result c.entry_of.ensures

pub commit-requires-clause-room : goal.commit-requires-clause-room
commit-requires-clause-room g c = step-room c.args.self.now.core c.args.begun c.requires.next c.entry_of.result c.entry_of.ensures

pub commit-requires-clause-planned : goal.commit-requires-clause-planned
commit-requires-clause-planned g c = step-planned c.args.self.now.core c.args.begun c.requires.next c.entry_of.result c.entry_of.ensures c.requires.goes_on

pub commit-requires-clause-kept : goal.commit-requires-clause-kept
commit-requires-clause-kept g c = step-given c.args.self.now.core c.args.begun c.requires.next c.entry_of.result c.entry_of.ensures

pub commit-requires-clause-tail : goal.commit-requires-clause-tail
commit-requires-clause-tail g c = step-tail c.args.self.now.core c.args.begun c.requires.next c.entry_of.result c.entry_of.ensures

pub returns-then-commit-clause-attempt : goal.returns-then-commit-clause-attempt
returns-then-commit-clause-attempt g c =
    let core = c.args.self.now.core in
    entry-commits (does_wait core.depth core.fuel) (MayAnswer core.depth core.fuel) c.args.begun.label c.entry_of.result c.entry_of.ensures
    (g.B.Board.sight c.args.board.now) (g.B.Board.sight c.commit.new.board) c.commit.result c.if-commit.true c.commit.ensures.commits
