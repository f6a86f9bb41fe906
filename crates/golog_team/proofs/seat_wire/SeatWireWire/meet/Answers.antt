use Rattle.std.proofs.Common.{◌≡◌, ◌≢◌, false, List, ℕ, [], ◌∷◌, refl, sym, ap, ◌∙◌, subst}
use Rattle.golog_turn.specs.Parties.{contains, KeepsLonger}
use Rattle.golog_turn.specs.Seats.{seen, parties_of}
use Rattle.golog_team.specs.Notes.{Notes, side_of}
use Rattle.golog_team.specs.Wires.{HasMet}
use Rattle.golog_team.proofs.SeatsMet.{not-held, which, one-met, other-met}
use Rattle.golog_team.proofs.seat_wire.SeatWireWire.meet.Goals as goal

pub meet_seats-requires-clause-held : goal.meet_seats-requires-clause-held
meet_seats-requires-clause-held g c =
    let one = c.args.self.now in
    let other = c.args.other.now in
    (other.holds, subst (λ (ps : List ℕ). contains ps other.side ≡ false) (sym one.holds) (not-held one.side other.side c.requires))

pub returns-clause-all : goal.returns-clause-all
returns-clause-all g c =
    let one = c.args.self.now in
    let other = c.args.other.now in
    which (seen one.seat) (seen other.seat) (seen c.meet_seats.new.seat) (parties_of one.seat) (parties_of other.seat) c.meet_seats.ensures.kept

pub returns-clause-own : goal.returns-clause-own
returns-clause-own g c =
    let one = c.args.self.now in
    let other = c.args.other.now in
    one-met one.side (seen one.seat) (seen other.seat) (seen c.meet_seats.new.seat) (parties_of other.seat)
    (subst (λ (ps : List ℕ). KeepsLonger side_of (seen one.seat) ps (seen other.seat) (parties_of other.seat) (seen c.meet_seats.new.seat)) one.holds c.meet_seats.ensures.kept)

pub returns-clause-other : goal.returns-clause-other
returns-clause-other g c =
    let one = c.args.self.now in
    let other = c.args.other.now in
    subst (λ (l : Notes). HasMet (record { side = other.side; seen = seen other.seat }) (record { side = other.side; seen = l })) (sym c.meet_seats.ensures.same)
    (other-met other.side (seen one.seat) (seen other.seat) (seen c.meet_seats.new.seat) (parties_of one.seat)
    (subst (λ (ps : List ℕ). KeepsLonger side_of (seen one.seat) (parties_of one.seat) (seen other.seat) ps (seen c.meet_seats.new.seat)) other.holds c.meet_seats.ensures.kept))
