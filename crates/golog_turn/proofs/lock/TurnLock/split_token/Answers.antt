use Rattle.std.proofs.Common.{◌≡◌, ℕ, true, rules, subst}
use Rattle.golog_turn.specs.Parties.{contains}
use Rattle.golog_turn.proofs.SeatSteps.{splits_as}
use Rattle.golog_turn.proofs.lock.TurnLock.split_token.Goals as goal

pub split_seat-requires : goal.split_seat-requires
split_seat-requires g c =
    let has = subst (λ (p : ℕ). contains c.args.token.now.me.0.parties p ≡ true) c.requires.party.0 c.requires.party.1 in
    (search rules, search rules, splits_as g.O.Object.party g.O.Object.list _ _ c.args.token.now.me c.requires.idle has)
