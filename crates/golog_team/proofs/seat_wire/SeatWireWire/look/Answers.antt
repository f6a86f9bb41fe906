use Rattle.std.proofs.Common.{sym, ap, ◌∙◌}
use Rattle.golog_turn.specs.Seats.{seen, parties_of}
use Rattle.golog_team.proofs.Acted.{asked, may-look, may-put, may-put-at, heard, looks, looks-past, puts}
use Rattle.golog_team.proofs.seat_wire.SeatWireWire.look.Goals as goal

pub act-requires-clause-allowed : goal.act-requires-clause-allowed
act-requires-clause-allowed g c o goes =
    let w = c.args.self.now in
    asked w.side (seen w.seat) o _ (parties_of w.seat) w.holds
    (λ on. may-look w.side w.one_of_two (seen w.seat) o on c.args.at c.requires) goes

pub returns-in-Seen : goal.returns-in-Seen
returns-in-Seen g c =
    let w = c.args.self.now in
    heard w.side (seen w.seat) _ _ _ _ (λ notes added says. looks c.args.at notes added _ _ _ says) (parties_of w.seat) w.holds c.in-Seen.ensures.acted.1

pub returns-in-Nothing : goal.returns-in-Nothing
returns-in-Nothing g c =
    let w = c.args.self.now in
    heard w.side (seen w.seat) _ _ _ _ (λ notes added says. looks-past c.args.at notes added _ says) (parties_of w.seat) w.holds c.in-Nothing.ensures.acted.1
