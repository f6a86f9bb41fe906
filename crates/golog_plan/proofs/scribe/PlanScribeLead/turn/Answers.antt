use Rattle.std.proofs.Common.{◌≡◌, ◌≤◌, ◌↔◌, length, refl, sym, ap, subst}
use Rattle.std.specs.Prelude.{IsTrue}
use Rattle.golog_semantics.specs.Journal.{Journal, has_end, longest}
use Rattle.golog_journal.specs.declared.lead.Led.{Led}
use Rattle.golog_journal.specs.declared.lead.Led.TheVariants as led
use Rattle.golog_journal.specs.Boards.{IsBoardList}
use Rattle.golog_lead.proofs.Minds.{outlet-still}
use Rattle.golog_lead.proofs.Turning.{turn-leads, whole-behind}
use Rattle.golog_branch.specs.PlanJournals.{IsPlannedSoFar, plan_waits}
use Rattle.golog_plan.specs.Keeping.{PlanCourse}
use Rattle.golog_plan.specs.Turns.{MayAnswer, does_wait}
use Rattle.golog_plan.proofs.Turning.{lead-so, lead-turn}
use Rattle.golog_plan.proofs.scribe.PlanScribeLead.turn.Goals as goal

pub returns : goal.returns
returns g c =
    let t = c.turn-stepped.ensures in
    let f = c.keeps_rules.ensures.followed in
    let old = g.B.Board.sight c.args.board.now in
    let new = g.B.Board.sight c.turn-stepped.new.board in
    let first = c.args.self.now.driver.core in
    let later = c.turn-stepped.new.self.driver.core in
    let step = c.turn-stepped.result in
    let agent = ap (λ (v : PlanCourse). v.agent) t.same in
    let kept : IsPlannedSoFar later.agent first.depth first.fuel later.list = subst (λ (v : PlanCourse). IsPlannedSoFar later.agent v.depth v.fuel later.list) t.same t.planned in
    let leads = turn-leads (does_wait first.depth first.fuel) (MayAnswer first.depth first.fuel) old new step t.turn in
    record {
      same = record {
        same_agent = agent;
        same_bounds = ap (λ (v : PlanCourse). (v.depth, v.fuel)) t.same;
        same_waits = ap (λ (v : PlanCourse). plan_waits v.agent v.depth v.fuel) t.same;
        same_outlet = outlet-still _ _ t.same_reference t.same_base t.same_faults;
      };
      stands = t.stands;
      behind = whole-behind later.list new.seen t.whole;
      leads = leads;
      ended =
          subst (λ (l : Led). (l ≡ led.Ended) ↔ IsTrue (has_end new.seen)) (sym c.led_by.ensures)
          (lead-so first.depth first.fuel first.agent later.agent later.list old new c.requires.agent agent t.whole kept step t.turn c.requires.held leads.same_agent);
      turn = lead-turn first.depth first.fuel first.agent later.agent later.list old new c.requires.agent agent t.whole kept step t.turn _ refl refl;
      lawful = subst (IsBoardList later.agent) t.whole f.lawful;
      short = subst (λ (j : Journal). length j ≤ longest) t.whole c.keeps_rules.ensures.short;
    }
