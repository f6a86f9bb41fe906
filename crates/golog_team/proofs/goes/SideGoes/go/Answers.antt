use Rattle.golog_team.proofs.Pairs.{same-side, same-then}
use Rattle.golog_team.proofs.goes.SideGoes.go.Goals as goal

pub loop-init : goal.loop-init
loop-init g c = (tt, tt, c.requires, same-side g.L.Lead.mind g.W.Wire.view c.args.self.now, λ h. h)

pub loop-preserved : goal.loop-preserved
loop-preserved g c =
    let i = c.loop.invariant in
    let e = c.step_or_sleep.ensures in
    (tt, tt, e.side, same-then g.L.Lead.mind g.W.Wire.view _ _ _ i.3 e.same, λ h. e.stands (i.4 h))

pub returns-then-is_over : goal.returns-then-is_over
returns-then-is_over g c =
    let i = c.loop.invariant in
    record { is_side = i.2; same = i.3; stood = i.4; over = c.is_over.ensures.over c.if-is_over.true }
