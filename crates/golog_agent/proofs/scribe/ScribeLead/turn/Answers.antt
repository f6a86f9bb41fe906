use Rattle.std.proofs.Common.{◌≡◌, ◌≤◌, ◌↔◌, length, refl, sym, ap, subst}
use Rattle.std.specs.Prelude.{IsTrue}
use Rattle.golog_semantics.specs.Journal.{Journal, has_end, longest}
use Rattle.golog_journal.specs.declared.lead.Led.{Led}
use Rattle.golog_journal.specs.declared.lead.Led.TheVariants as led
use Rattle.golog_journal.specs.Boards.{IsBoardList}
use Rattle.golog_lead.specs.Waiting.{waits}
use Rattle.golog_lead.proofs.Minds.{outlet-still, takes-as}
use Rattle.golog_agent.specs.Turns.{MayAnswer}
use Rattle.golog_lead.proofs.Turning.{turn-leads, whole-behind}
use Rattle.golog_agent.proofs.Turning.{lead-so, lead-turn, mind_of}
use Rattle.golog_agent.proofs.scribe.ScribeLead.turn.Goals as goal

pub returns : goal.returns
returns g c =
    let t = c.turn-stepped.ensures in
    let u = c.keeps_rules.ensures in
    let old = g.B.Board.sight c.args.board.now in
    let new = g.B.Board.sight c.turn-stepped.new.board in
    let first = c.args.self.now.driver.core in
    let later = c.turn-stepped.new.self.driver.core in
    let step = c.turn-stepped.result in
    record {
      same = record {
        same_agent = t.same;
        same_bounds = refl;
        same_waits = ap waits t.same;
        same_outlet = outlet-still _ _ t.same_reference t.same_base t.same_faults;
      };
      stands = t.stands;
      behind = whole-behind later.list new.seen t.whole;
      leads = turn-leads waits MayAnswer old new step t.turn;
      ended =
          subst (λ (l : Led). (l ≡ led.Ended) ↔ IsTrue (has_end new.seen)) (sym c.led_by.ensures)
          (lead-so first later old new c.requires.agent c.requires.held t.same t.whole t.online step t.turn);
      turn = takes-as (mind_of first) _ old new refl (lead-turn first later old new c.requires.agent c.requires.held t.same t.whole t.online step t.turn);
      lawful = subst (IsBoardList later.agent) t.whole u.under_way.lawful;
      short = subst (λ (j : Journal). length j ≤ longest) t.whole u.short;
    }
