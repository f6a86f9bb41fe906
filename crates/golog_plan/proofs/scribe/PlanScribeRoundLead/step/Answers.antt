use Rattle.std.proofs.Common.{refl, ap, subst}
use Rattle.golog_lead.proofs.Minds.{outlet-still}
use Rattle.golog_lead.proofs.Turning.{turn-leads}
use Rattle.golog_branch.specs.PlanJournals.{IsPlannedSoFar, plan_waits}
use Rattle.golog_plan.specs.Keeping.{PlanCourse}
use Rattle.golog_plan.specs.Turns.{MayAnswer, does_wait}
use Rattle.golog_plan.proofs.Turning.{alone-so, lead-turn}
use Rattle.golog_plan.proofs.scribe.PlanScribeRoundLead.step.Goals as goal

pub returns : goal.returns
returns g c =
    let t = c.turn.ensures in
    let old = g.B.Board.sight c.args.board.now in
    let new = g.B.Board.sight c.turn.new.board in
    let first = c.args.self.now.driver.core in
    let later = c.turn.new.self.driver.core in
    let step = c.turn.result in
    let agent = ap (λ (v : PlanCourse). v.agent) t.same in
    let kept : IsPlannedSoFar later.agent first.depth first.fuel later.list = subst (λ (v : PlanCourse). IsPlannedSoFar later.agent v.depth v.fuel later.list) t.same t.planned in
    record {
      same = record {
        same_agent = agent;
        same_bounds = ap (λ (v : PlanCourse). (v.depth, v.fuel)) t.same;
        same_waits = ap (λ (v : PlanCourse). plan_waits v.agent v.depth v.fuel) t.same;
        same_outlet = outlet-still _ _ t.same_reference t.same_base t.same_faults;
      };
      stands = t.stands;
      whole = t.whole;
      leads = turn-leads (does_wait first.depth first.fuel) (MayAnswer first.depth first.fuel) old new step t.turn;
      turn = lead-turn first.depth first.fuel first.agent later.agent later.list old new c.requires.agent agent t.whole kept step t.turn _ refl refl;
      alone = λ alone. alone-so first.depth first.fuel first.agent later.agent later.list old new c.requires.agent agent t.whole kept step t.turn alone;
    }
