use Rattle.std.proofs.Common.{◌≡◌}
use Rattle.golog_team.specs.Standing.{SameSide, ArePair}
use Rattle.golog_team.proofs.Turns.{RoundsTo}
use Rattle.golog_team.proofs.team.go_in_turn.Given as goal

abbrev pub invariant-loop : goal.invariant-loop
invariant-loop g l =
    let m = g.L.Lead.mind in
    let n = g.M.Lead.mind in
    let v = g.W.Wire.view in
    (goal.iterator-loop g).can_next l.iterator' × (goal.iterator-loop g).is_finite l.iterator'
    × ArePair m n v l.first l.second
    × ((v l.second.wire).seen ≡ (v l.first.wire).seen)
    × SameSide m v l.fn.first l.first
    × SameSide n v l.fn.second l.second
    × (g.L.Lead.stands l.fn.first.lead → g.L.Lead.stands l.first.lead)
    × (g.M.Lead.stands l.fn.second.lead → g.M.Lead.stands l.second.lead)
    × RoundsTo m n v l.fn.first l.fn.second l.first l.second
