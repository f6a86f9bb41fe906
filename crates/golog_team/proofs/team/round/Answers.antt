use Rattle.std.proofs.Common.{◌≡◌, refl, sym, ap, ◌∙◌}
use Rattle.golog_team.proofs.Pairs.{same-then, pair-across}
use Rattle.golog_team.proofs.Turns.{makes-round}
use Rattle.golog_team.proofs.team.round.Goals as goal

pub turn-requires-2-clause-pair : goal.turn-requires-2-clause-pair
turn-requires-2-clause-pair g c =
    pair-across g.L.Lead.mind g.M.Lead.mind g.W.Wire.view c.turn.new.one c.turn.new.other c.turn.ensures.pair

pub turn-requires-2-clause-met : goal.turn-requires-2-clause-met
turn-requires-2-clause-met g c = sym c.turn.ensures.met

pub returns-clause-pair : goal.returns-clause-pair
returns-clause-pair g c =
    pair-across g.M.Lead.mind g.L.Lead.mind g.W.Wire.view c.turn-2.new.one c.turn-2.new.other c.turn-2.ensures.pair

pub returns-clause-met : goal.returns-clause-met
returns-clause-met g c = sym c.turn-2.ensures.met

pub returns-clause-same : goal.returns-clause-same
returns-clause-same g c =
    let m = g.L.Lead.mind in
    let n = g.M.Lead.mind in
    let v = g.W.Wire.view in (
      same-then m v c.args.one.now c.turn.new.one c.turn-2.new.other c.turn.ensures.same.0 c.turn-2.ensures.same.1,
      same-then n v c.args.other.now c.turn.new.other c.turn-2.new.one c.turn.ensures.same.1 c.turn-2.ensures.same.0,
    )

pub returns-clause-stands : goal.returns-clause-stands
returns-clause-stands g c = (
  λ h. c.turn-2.ensures.stands.1 (c.turn.ensures.stands.0 h),
  λ h. c.turn-2.ensures.stands.0 (c.turn.ensures.stands.1 h),
)

pub returns-clause-round : goal.returns-clause-round
returns-clause-round g c =
    makes-round g.L.Lead.mind g.M.Lead.mind g.W.Wire.view c.args.one.now c.turn.new.one c.turn-2.new.other c.args.other.now c.turn.new.other c.turn-2.new.one
    c.requires.pair c.turn.ensures.same.1 c.turn.ensures.turn c.turn.ensures.hears c.turn-2.ensures.turn c.turn-2.ensures.hears
