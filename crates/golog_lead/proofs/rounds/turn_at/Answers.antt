use Rattle.std.proofs.Common.{◌≡◌, true, false, get_or, sym, ◌∙◌, subst, arith}
use Rattle.golog_semantics.specs.Journal.{is_open}
use Rattle.golog_journal.specs.Boards.{IsBoardList}
use Rattle.golog_device.specs.Dealing.{DealtIf}
use Rattle.golog_device.proofs.Standings.{OnlySlot-set}
use Rattle.golog_lead.specs.Moments.{DeviceMade}
use Rattle.golog_lead.proofs.OneTurn.{turn-made, turn-keeps, dealt-now}
use Rattle.golog_lead.proofs.rounds.turn_at.Goals as goal

pub one_turn-requires-clause-held : goal.one_turn-requires-clause-held
one_turn-requires-clause-held g c =
    let few = c.requires.well_formed.small.devices in
    let inside = c.requires.ready.driven.is_device in
    g.met.B.Board.holds_all c.args.board.now c.requires.alone c.args.slot (omega (arith, few, inside))

pub returns-clause-same_board : goal.returns-clause-same_board
returns-clause-same_board g c =
    (turn-keeps c.args.agent.now c.args.slot c.args.taken.now c.one_turn.new.taken c.one_turn.result (g.B.Board.sight c.args.board.now)
    (g.B.Board.sight c.one_turn.new.board) _ _ c.one_turn.ensures.turns).0

pub returns-clause-lawful : goal.returns-clause-lawful
returns-clause-lawful g c =
    let keeps = turn-keeps c.args.agent.now c.args.slot c.args.taken.now c.one_turn.new.taken c.one_turn.result (g.B.Board.sight c.args.board.now)
    (g.B.Board.sight c.one_turn.new.board) _ _ c.one_turn.ensures.turns in
    subst (λ a. IsBoardList a (g.B.Board.sight c.one_turn.new.board).seen) ((keeps.0).same_agent ∙ c.requires.board) keeps.1

pub returns-clause-made : goal.returns-clause-made
returns-clause-made g c =
    let few = c.requires.well_formed.small.devices in
    let inside = c.requires.ready.driven.is_device in
    let held = g.met.B.Board.holds_all c.args.board.now c.requires.alone c.args.slot (omega (arith, few, inside)) in
    let new = g.B.Board.sight c.one_turn.new.board in
    turn-made c.args.agent.now c.args.slot c.args.taken.now c.one_turn.new.taken c.one_turn.result (g.B.Board.sight c.args.board.now) new _ _ c.requires.board held
    c.requires.ready c.one_turn.ensures.turns c.requires.alone
    (λ opened. c.one_turn.ensures.ready (λ closed. let shut : is_open c.args.slot new.seen ≡ false = c.one_turn.ensures.closed.0 closed in let k = sym opened ∙ shut in absurd (cc)))

pub returns-clause-device : goal.returns-clause-device
returns-clause-device g c =
    let agent = c.args.agent.now in
    let old = g.B.Board.sight c.args.board.now in
    let new = g.B.Board.sight c.one_turn.new.board in
    let count = c.one_turn.new.taken in
    let opened : is_open c.args.slot old.seen ≡ true = c.requires.ready.driven.still_open in
    OnlySlot-set (λ d. record { fresh = g.D.Device.fresh d; meaning = g.D.Device.meaning d })
    (DeviceMade agent c.args.slot old.seen c.args.taken.now new.seen count) c.args.devices.now c.args.slot c.index-devices-slot.result c.one_turn.new.device
    c.requires.within
    (record {
      dealt = λ script far.
          dealt-now agent c.args.slot c.one_turn.result new.seen count script (g.D.Device.meaning c.one_turn.new.device) c.one_turn.ensures.closed.1 c.one_turn.ensures.closed.0
          (c.one_turn.ensures.dealt script (subst (λ b. DealtIf agent c.args.slot b old.seen c.args.taken.now script (g.D.Device.meaning (get_or c.args.devices.now c.args.slot c.index-devices-slot.result))) opened far));
      scripted = c.one_turn.ensures.scripted c.requires.alone;
    })
