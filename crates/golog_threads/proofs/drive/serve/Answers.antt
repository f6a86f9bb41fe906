use Rattle.std.proofs.Common.{◌≡◌, true, sym, ◌∙◌, ap, subst}
use Rattle.golog_semantics.specs.Journal.{is_open}
use Rattle.golog_journal.specs.Boards.{IsBoardList}
use Rattle.golog_turn.specs.Parties.{contains}
use Rattle.golog_turn.specs.Seats.{seen, parties_of}
use Rattle.golog_threads.specs.Driving.{GoesFrom, HasServed}
use Rattle.golog_threads.proofs.Turning.{held-after, goes-on, whole, served}
use Rattle.golog_threads.proofs.drive.serve.Goals as goal

pub one_turn-turned-requires-clause-held : goal.one_turn-turned-requires-clause-held
one_turn-turned-requires-clause-held g c = c.loop.invariant.2.held

pub loop-preserved : goal.loop-preserved
loop-preserved g c = (
  tt,
  tt,
  goes-on c.args.agent.now c.args.poster _ _ _ _ _ _ _ _ _ c.loop.invariant.2 c.one_turn-turned.ensures.turns c.one_turn-turned.ensures.dealt
      (c.is_closed.ensures.1 c.if-is_closed.false) (c.one_turn-turned.ensures.ready (c.is_closed.ensures.1 c.if-is_closed.false)),
)

pub returns-then-is_closed-clause-held : goal.returns-then-is_closed-clause-held
returns-then-is_closed-clause-held g c =
    ap (λ s. contains (parties_of s) c.args.poster) c.into_seat.ensures.same
    ∙ held-after c.args.agent.now c.args.poster _ _ _ _ _ _ _ _ _ c.loop.invariant.2 c.one_turn-turned.ensures.turns c.one_turn-turned.ensures.dealt

pub returns-then-is_closed-clause-goes : goal.returns-then-is_closed-clause-goes
returns-then-is_closed-clause-goes g c =
    let w = whole c.args.agent.now c.args.poster _ _ _ _ _ _ _ _ _ c.loop.invariant.2 c.one_turn-turned.ensures.turns c.one_turn-turned.ensures.dealt in
    subst (λ s. GoesFrom (seen s) (seen c.into_seat.result)) c.of-board.ensures
    (subst (λ s. GoesFrom (seen c.of-board.result.seat) (seen s)) (sym c.into_seat.ensures.same) w.goes)

pub returns-then-is_closed-clause-lawful : goal.returns-then-is_closed-clause-lawful
returns-then-is_closed-clause-lawful g c =
    let w = whole c.args.agent.now c.args.poster _ _ _ _ _ _ _ _ _ c.loop.invariant.2 c.one_turn-turned.ensures.turns c.one_turn-turned.ensures.dealt in
    subst (λ a. IsBoardList a (seen c.into_seat.result)) c.requires.agent
    (subst (λ s. IsBoardList g.A.Naming.agent (seen s)) (sym c.into_seat.ensures.same) w.lawful)

pub returns-then-is_closed-clause-served : goal.returns-then-is_closed-clause-served
returns-then-is_closed-clause-served g c =
    let closed = c.is_closed.ensures.0 c.if-is_closed.true in
    let opened : is_open c.args.poster (seen c.of-board.result.seat) ≡ true =
    subst (λ s. is_open c.args.poster (seen s) ≡ true) (sym c.of-board.ensures) c.requires.ready.driven.still_open in
    let meaning = g.D.Device.meaning in
    let device = c.one_turn-turned.new.device in
    subst (λ s. HasServed c.args.agent.now meaning (seen s) (seen c.into_seat.result) c.args.poster c.args.device.now device) c.of-board.ensures
    (subst (λ s. HasServed c.args.agent.now meaning (seen c.of-board.result.seat) (seen s) c.args.poster c.args.device.now device) (sym c.into_seat.ensures.same)
    (served c.args.agent.now c.args.poster meaning _ _ _ _ _ c.args.device.now device _ _ c.loop.invariant.2 c.one_turn-turned.ensures.turns c.one_turn-turned.ensures.dealt closed
    (c.one_turn-turned.ensures.closed.0 closed) opened))
