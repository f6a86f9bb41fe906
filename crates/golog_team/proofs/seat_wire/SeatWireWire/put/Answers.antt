use Rattle.std.proofs.Common.{sym, ap, ◌∙◌}
use Rattle.golog_turn.specs.Seats.{seen, parties_of}
use Rattle.golog_team.proofs.Acted.{asked, may-look, may-put, may-put-at, heard, looks, looks-past, puts}
use Rattle.golog_team.proofs.seat_wire.SeatWireWire.put.Goals as goal

pub act-at-requires-clause-allowed : goal.act-at-requires-clause-allowed
act-at-requires-clause-allowed g c o goes =
    let w = c.args.self.now in
    asked w.side (seen w.seat) o _ (parties_of w.seat) w.holds
    (λ on. may-put w.side w.one_of_two (seen w.seat) o on c.args.note c.requires) goes

pub returns : goal.returns
returns g c =
    let w = c.args.self.now in
    heard w.side (seen w.seat) _ _ _ _ (λ notes added says. puts w.side c.args.note notes added _ says) (parties_of w.seat) w.holds c.act-at.ensures.acted.1
