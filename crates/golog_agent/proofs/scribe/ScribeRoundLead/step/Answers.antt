use Rattle.std.proofs.Common.{refl, ap}
use Rattle.golog_lead.proofs.Minds.{outlet-still, takes-as}
use Rattle.golog_lead.specs.Waiting.{waits}
use Rattle.golog_agent.proofs.Leading.{alone-so}
use Rattle.golog_agent.specs.Turns.{MayAnswer}
use Rattle.golog_lead.proofs.Turning.{turn-leads}
use Rattle.golog_agent.proofs.Turning.{lead-turn, mind_of}
use Rattle.golog_agent.proofs.scribe.ScribeRoundLead.step.Goals as goal

pub returns : goal.returns
returns g c =
    let t = c.turn.ensures in
    let old = g.B.Board.sight c.args.board.now in
    let new = g.B.Board.sight c.turn.new.board in
    let first = c.args.self.now.driver.core in
    let later = c.turn.new.self.driver.core in
    let step = c.turn.result in
    record {
      same = record {
        same_agent = t.same;
        same_bounds = refl;
        same_waits = ap waits t.same;
        same_outlet = outlet-still _ _ t.same_reference t.same_base t.same_faults;
      };
      stands = t.stands;
      whole = t.whole;
      leads = turn-leads waits MayAnswer old new step t.turn;
      turn = takes-as (mind_of first) _ old new refl (lead-turn first later old new c.requires.agent c.requires.held t.same t.whole t.online step t.turn);
      alone = alone-so first later old new step c.requires.agent t.same t.whole t.online t.turn;
    }
