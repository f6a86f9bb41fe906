use Rattle.std.proofs.Common.{refl, sym, ap, ◌∙◌, subst}
use Rattle.golog_agent.specs.Planned.{IsNextStep}
use Rattle.golog_lead.specs.Courses.{Course}
use Rattle.golog_lead.specs.Seeing.{IsCurrent, IsOver}
use Rattle.golog_agent.specs.Turns.{MayAnswer}
use Rattle.golog_lead.specs.Waiting.{waits}
use Rattle.golog_agent.proofs.Stepping.{plan-answers, plan-steps, plan-waits}
use Rattle.golog_lead.proofs.Turning.{attempt-waits, current-over}
use Rattle.golog_lead.proofs.Recorded.{records-as, records-same}
use Rattle.golog_agent.proofs.driver.Driver.go_on.Goals as goal

pub returns-in-Wait-clause-attempt : goal.returns-in-Wait-clause-attempt
returns-in-Wait-clause-attempt g c =
    let sight = g.B.Board.sight c.args.board.now in
    attempt-waits waits MayAnswer c.args.self.now.core sight sight c.requires.current c.requires.goes_on
    (plan-waits c.args.self.now.core c.plan.result c.plan.ensures.plan c.in-Wait.is)

pub returns-in-Wait-clause-behind : goal.returns-in-Wait-clause-behind
returns-in-Wait-clause-behind g c =
    subst (λ (v : Course). IsOver v (g.B.Board.sight c.args.board.now)) (sym c.plan.ensures.same)
    (current-over c.args.self.now.core (g.B.Board.sight c.args.board.now) c.requires.current)

pub returns-in-Wait-clause-whole : goal.returns-in-Wait-clause-whole
returns-in-Wait-clause-whole g c = ap (λ (v : Course). v.list) c.plan.ensures.same ∙ c.requires.current.whole

pub commit_end-requires-clause-current : goal.commit_end-requires-clause-current
commit_end-requires-clause-current g c = subst (λ (v : Course). IsCurrent v (g.B.Board.sight c.args.board.now)) (sym c.plan.ensures.same) c.requires.current

pub commit_end-requires-clause-answered : goal.commit_end-requires-clause-answered
commit_end-requires-clause-answered g c =
    subst (λ (v : Course). MayAnswer v.agent v.list c.in-End.answer) (sym c.plan.ensures.same)
    (plan-answers c.args.self.now.core c.plan.result c.plan.ensures.plan c.in-End.answer c.in-End.is)

pub commit_step-requires-clause-current : goal.commit_step-requires-clause-current
commit_step-requires-clause-current g c = subst (λ (v : Course). IsCurrent v (g.B.Board.sight c.args.board.now)) (sym c.plan.ensures.same) c.requires.current

pub commit_step-requires-clause-next : goal.commit_step-requires-clause-next
commit_step-requires-clause-next g c =
    subst (λ (v : Course). IsNextStep v.agent v.list c.in-Step.step) (sym c.plan.ensures.same)
    (plan-steps c.args.self.now.core c.plan.result c.plan.ensures.plan c.in-Step.step c.in-Step.is)

pub returns-in-Wait-clause-recorded : goal.returns-in-Wait-clause-recorded
returns-in-Wait-clause-recorded g c = records-same g.R.Record.outlet g.R.Record.stands c.args.self.now.core c.plan.new.self c.args.self.now.record c.plan.ensures.same

pub returns-in-End-clause-recorded : goal.returns-in-End-clause-recorded
returns-in-End-clause-recorded g c =
    records-as g.R.Record.outlet g.R.Record.stands c.plan.new.self c.args.self.now.core c.commit_end.new.self.core c.commit_end.new.self.core c.args.self.now.record c.commit_end.new.self.record
    (sym c.plan.ensures.same) refl c.commit_end.ensures.recorded

pub returns-in-Step-clause-recorded : goal.returns-in-Step-clause-recorded
returns-in-Step-clause-recorded g c =
    records-as g.R.Record.outlet g.R.Record.stands c.plan.new.self c.args.self.now.core c.commit_step.new.self.core c.commit_step.new.self.core c.args.self.now.record c.commit_step.new.self.record
    (sym c.plan.ensures.same) refl c.commit_step.ensures.recorded
