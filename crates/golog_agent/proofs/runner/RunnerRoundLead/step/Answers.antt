use Rattle.golog_agent.proofs.Leading.{alone-so}
use Rattle.golog_lead.specs.Waiting.{waits}
use Rattle.golog_agent.specs.Turns.{MayAnswer}
use Rattle.golog_lead.proofs.Turning.{turn-leads}
use Rattle.golog_agent.proofs.Turning.{lead-turn, same-mind}
use Rattle.golog_agent.proofs.runner.RunnerRoundLead.step.Goals as goal

pub returns : goal.returns
returns g c =
    let t = c.turn.ensures in
    let old = g.B.Board.sight c.args.board.now in
    let new = g.B.Board.sight c.turn.new.board in
    let first = c.args.self.now in
    let later = c.turn.new.self in
    let step = c.turn.result in
    record {
      same = same-mind first later t.same;
      stands = λ stood. stood;
      whole = t.whole;
      leads = turn-leads waits MayAnswer old new step t.turn;
      turn = lead-turn first later old new c.requires.agent c.requires.held t.same t.whole t.online step t.turn;
      alone = alone-so first later old new step c.requires.agent t.same t.whole t.online t.turn;
    }
