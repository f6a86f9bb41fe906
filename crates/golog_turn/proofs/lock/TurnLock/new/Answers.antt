use Rattle.std.proofs.Common.{rules, [], ◌∷◌, ◌++◌, ap, ◌∙◌}
use Rattle.golog_turn.proofs.SeatSteps.{opens_as}
use Rattle.golog_turn.proofs.lock.TurnLock.new.Goals as goal

pub new-requires : goal.new-requires
new-requires g c =
    let slots = c.push_reserved.ensures.items ∙ ap (λ l. l ++ c.args.object ∷ []) c.in_ok-slots.ensures.items in
    opens_as g.O.Object.party g.O.Object.list c.args.object _ _ _ _ (search rules) c.length.ensures slots c.of.ensures
