use Rattle.std.proofs.Common.{◌≡◌, replicate}
use Rattle.golog_replay.specs.Standings.{untouched}
use Rattle.golog_replay.proofs.standing.all_untouched.Given as goal

abbrev pub invariant-loop : goal.invariant-loop
invariant-loop l = l.devices.items ≡ replicate l.counter untouched
