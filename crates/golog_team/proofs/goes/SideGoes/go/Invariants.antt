use Rattle.golog_team.specs.Standing.{IsSide, SameSide}
use Rattle.golog_team.proofs.goes.SideGoes.go.Given as goal

abbrev pub invariant-loop : goal.invariant-loop
invariant-loop g l =
    (goal.iterator-loop g).can_next l.iterator' × (goal.iterator-loop g).is_finite l.iterator'
    × IsSide g.L.Lead.mind g.W.Wire.view l.self
    × SameSide g.L.Lead.mind g.W.Wire.view l.initial.self l.self
    × (g.L.Lead.stands l.initial.self.lead → g.L.Lead.stands l.self.lead)
