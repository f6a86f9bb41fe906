use Rattle.std.proofs.Common.{sym, ap, ◌∙◌}
use Rattle.golog_turn.specs.Seats.{seen, parties_of}
use Rattle.golog_team.proofs.Acted.{asked, may-look, may-put, may-put-at, heard, looks, looks-past, puts}
use Rattle.golog_team.proofs.seat_wire.SeatWireWire.put_at.Goals as goal

pub act-requires-clause-allowed : goal.act-requires-clause-allowed
act-requires-clause-allowed g c o goes =
    let w = c.args.self.now in
    asked w.side (seen w.seat) o _ (parties_of w.seat) w.holds
    (λ on. may-put-at w.side w.one_of_two (seen w.seat) o on c.args.at c.args.note c.requires.within c.requires.allowed) goes

pub returns-in-At : goal.returns-in-At
returns-in-At g c =
    let w = c.args.self.now in
    heard w.side (seen w.seat) _ _ _ _ (λ notes added says. (says.0, says.2)) (parties_of w.seat) w.holds c.in-At.ensures.acted.1

pub returns-in-Longer : goal.returns-in-Longer
returns-in-Longer g c =
    let w = c.args.self.now in
    heard w.side (seen w.seat) _ _ _ _ (λ notes added says. (says.0, says.2)) (parties_of w.seat) w.holds c.in-Longer.ensures.acted.1
