use Rattle.golog_team.proofs.Pairs.{same-side}
use Rattle.golog_team.proofs.Turns.{no-turn, hears-none}
use Rattle.golog_team.proofs.team.turn.Goals as goal

pub is_over-requires : goal.is_over-requires
is_over-requires g c = c.requires.pair.one_is

pub step_and_meet-requires-clause-goes_on : goal.step_and_meet-requires-clause-goes_on
step_and_meet-requires-clause-goes_on g c = c.is_over.ensures.goes_on c.if-is_over.false

pub returns-then-is_over-clause-same : goal.returns-then-is_over-clause-same
returns-then-is_over-clause-same g c =
    (same-side g.L.Lead.mind g.W.Wire.view c.args.one.now, same-side g.M.Lead.mind g.W.Wire.view c.args.other.now)

pub returns-then-is_over-clause-stands : goal.returns-then-is_over-clause-stands
returns-then-is_over-clause-stands g c = (λ h. h, λ h. h)

pub returns-then-is_over-clause-turn : goal.returns-then-is_over-clause-turn
returns-then-is_over-clause-turn g c = no-turn g.L.Lead.mind g.W.Wire.view c.args.one.now (c.is_over.ensures.told c.if-is_over.true)

pub returns-then-is_over-clause-hears : goal.returns-then-is_over-clause-hears
returns-then-is_over-clause-hears g c = hears-none g.M.Lead.mind g.W.Wire.view c.args.other.now c.args.other.now _ c.requires.met
