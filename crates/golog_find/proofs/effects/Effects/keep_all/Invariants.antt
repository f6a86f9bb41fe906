use Rattle.golog_find.specs.Visits.{AreEffects}
use Rattle.golog_find.proofs.effects.Effects.keep_all.Given as goal

-- what was kept is what steps write, and so is what is kept of those so far
abbrev pub invariant-loop-front : goal.invariant-loop-front
invariant-loop-front l = AreEffects l.agent l.self
