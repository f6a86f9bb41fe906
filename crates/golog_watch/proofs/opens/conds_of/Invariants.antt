use Rattle.std.proofs.Common.{◌≡◌, take}
use Rattle.golog_watch.specs.Watched.{conds_for}
use Rattle.golog_watch.proofs.opens.conds_of.Given as goal

-- the conditions of those of the fronts so far that are the step
abbrev pub invariant-loop-front : goal.invariant-loop-front
invariant-loop-front l = l.conds ≡ conds_for l.way (take l.front-index l.fronts)
