use Rattle.std.proofs.Common.{sym, ap, ◌∙◌, subst, ℕ, Bool}
use Rattle.golog_journal.specs.Taken.{IsReady}
use Rattle.golog_journal.specs.Commands.{NextIs}
use Rattle.golog_journal.specs.Growing.{Called}
use Rattle.golog_device.specs.Turns.{Turns}
use Rattle.golog_device.proofs.Asked.{asked-point, ready-there, turn-ready, turn-closed}
use Rattle.golog_device.proofs.DealtTurn.{dealt-turn}
use Rattle.golog_device.proofs.Scripted.{scripted-turn}
use Rattle.golog_device.proofs.turn.one_turn.Goals as goal

pub next_command-next-requires-clause-ready : goal.next_command-next-requires-clause-ready
next_command-next-requires-clause-ready g c =
    subst (λ a. IsReady a (g.B.Board.sight c.args.board.now).seen c.args.poster c.args.taken.now) (sym c.requires.agent) c.requires.ready

pub do_next-requires : goal.do_next-requires
do_next-requires g c =
    let old = g.B.Board.sight c.args.board.now in
    let asked = g.B.Board.sight c.next_command-next.new.self in
    let agent = c.args.agent.now in
    let called : Called (λ point. NextIs agent point c.args.poster c.args.taken.now c.next_command-next.result) old asked =
    subst (λ a. Called (λ point. NextIs a point c.args.poster c.args.taken.now c.next_command-next.result) old asked) c.requires.agent c.next_command-next.ensures in
    let at = asked-point agent c.args.poster c.args.taken.now c.next_command-next.result old asked c.requires.agent c.requires.held called in
    record {
      well_formed = c.requires.well_formed;
      agent = called.agent ∙ c.requires.agent;
      held = ap (λ (holds : ℕ → Bool). holds c.args.poster) called.holds ∙ c.requires.held;
      ready = ready-there agent c.args.poster c.args.taken.now old.seen asked.seen at.0 c.requires.ready;
      lawful = at.0.list;
      told = at.1;
    }

pub returns : goal.returns
returns g c =
    let old = g.B.Board.sight c.args.board.now in
    let asked = g.B.Board.sight c.next_command-next.new.self in
    let new = g.B.Board.sight c.do_next.new.board in
    let agent = c.args.agent.now in
    let device = c.args.poster in
    let taken = c.args.taken.now in
    let count = c.do_next.new.taken in
    let result = c.do_next.result in
    let was = g.D.Device.meaning c.args.device.now in
    let is = g.D.Device.meaning c.do_next.new.device in
    let turns : Turns agent device taken result count old new was is = record {
      told = c.next_command-next.result;
      asked = asked;
      asks = subst (λ a. Called (λ point. NextIs a point device taken c.next_command-next.result) old asked) c.requires.agent c.next_command-next.ensures;
      does = c.do_next.ensures.does;
    } in
    record {
      fresh = c.do_next.ensures.fresh;
      turns = turns;
      ready = turn-ready agent device taken count result old new was is c.requires.agent c.requires.held c.requires.ready turns;
      closed = turn-closed agent device taken count result old new was is c.requires.agent c.requires.held c.requires.ready turns;
      dealt = λ script far. dealt-turn agent device taken count result old new was is c.requires.agent c.requires.held c.requires.ready turns script far;
      scripted = λ alone. scripted-turn agent device taken count result old new was is c.requires.agent c.requires.held c.requires.ready turns alone;
    }
