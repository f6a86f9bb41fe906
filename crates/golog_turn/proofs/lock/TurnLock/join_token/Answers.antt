use Rattle.std.proofs.Common.{rules, ap, ◌∙◌}
use Rattle.golog_turn.specs.Turns.{taking}
use Rattle.golog_turn.proofs.SeatSteps.{joins_as, compares_as}
use Rattle.golog_turn.proofs.lock.TurnLock.join_token.Goals as goal

pub join_seat-requires : goal.join_seat-requires
join_seat-requires g c = (
  search rules,
  search rules,
  ap (λ m. m.1) c.requires.idle.1,
  search rules,
  joins_as g.O.Object.party g.O.Object.list _ c.args.token.now.me _ c.args.other.me c.requires.idle.0 c.requires.idle.1,
)

pub load-requires : goal.load-requires
load-requires g c =
    let v = c.args.token.now.me.0 in
    let w = c.args.other.me.0 in
    let hears = c.join_seat.ensures.2 ∙ (λ i. (taking v w, ap (λ m. m.1) c.requires.idle.0 i)) in
    (search rules, search rules, compares_as g.O.Object.party g.O.Object.list _ _ _ v w hears)
