use Rattle.std.proofs.Common.{◌≡◌, ◌≤◌, ◌↔◌, length, sym, subst}
use Rattle.std.specs.Prelude.{IsTrue}
use Rattle.golog_semantics.specs.Journal.{Journal, has_end, longest}
use Rattle.golog_journal.specs.declared.lead.Led.{Led}
use Rattle.golog_journal.specs.declared.lead.Led.TheVariants as led
use Rattle.golog_journal.specs.Boards.{IsBoardList}
use Rattle.golog_lead.specs.Waiting.{waits}
use Rattle.golog_agent.specs.Turns.{MayAnswer}
use Rattle.golog_lead.proofs.Turning.{turn-leads, whole-behind}
use Rattle.golog_agent.proofs.Turning.{lead-so, lead-turn, same-mind}
use Rattle.golog_agent.proofs.runner.RunnerLead.turn.Goals as goal

pub returns : goal.returns
returns g c =
    let t = c.turn-stepped.ensures in
    let u = c.keeps_rules.ensures in
    let old = g.B.Board.sight c.args.board.now in
    let new = g.B.Board.sight c.turn-stepped.new.board in
    let first = c.args.self.now in
    let later = c.turn-stepped.new.self in
    let step = c.turn-stepped.result in
    record {
      same = same-mind first later t.same;
      stands = λ stood. stood;
      behind = whole-behind later.list new.seen t.whole;
      leads = turn-leads waits MayAnswer old new step t.turn;
      ended =
          subst (λ (l : Led). (l ≡ led.Ended) ↔ IsTrue (has_end new.seen)) (sym c.led_by.ensures)
          (lead-so first later old new c.requires.agent c.requires.held t.same t.whole t.online step t.turn);
      turn = lead-turn first later old new c.requires.agent c.requires.held t.same t.whole t.online step t.turn;
      lawful = subst (IsBoardList later.agent) t.whole u.under_way.lawful;
      short = subst (λ (j : Journal). length j ≤ longest) t.whole u.short;
    }
