use Rattle.std.proofs.Common.{refl}
use Rattle.golog_lead.proofs.Turning.{end-commits}
use Rattle.golog_plan.specs.Keeping.{course_of}
use Rattle.golog_plan.specs.Turns.{MayAnswer, does_wait}
use Rattle.golog_plan.proofs.Committing.{end-planned}
use Rattle.golog_plan.proofs.driver.PlanDriver.commit_end.Goals as goal

pub commit-requires-clause-planned : goal.commit-requires-clause-planned
commit-requires-clause-planned g c = end-planned c.args.self.now.core c.args.answer c.requires.goes_on c.requires.answered

pub commit-requires-clause-kept : goal.commit-requires-clause-kept
commit-requires-clause-kept g c = refl

pub commit-requires-clause-tail : goal.commit-requires-clause-tail
commit-requires-clause-tail g c = refl

pub returns-then-commit-clause-attempt : goal.returns-then-commit-clause-attempt
returns-then-commit-clause-attempt g c =
    let core = c.args.self.now.core in
    end-commits (does_wait core.depth core.fuel) (MayAnswer core.depth core.fuel) (course_of core) (g.B.Board.sight c.args.board.now) (g.B.Board.sight c.commit.new.board) c.requires.current
    c.args.answer c.commit.result c.if-commit.true c.requires.goes_on c.requires.answered c.commit.ensures.commits
