use Rattle.std.proofs.Common.{◌+◌}
use Rattle.golog_replay.specs.Standings.{commands_from, first_awaited}
use Rattle.golog_replay.proofs.Scanning.{Scanned}
use Rattle.golog_replay.proofs.standing.first_among.Given as goal

abbrev pub invariant-loop-entry : goal.invariant-loop-entry
invariant-loop-entry l =
    Scanned l.facts l.device l.rest (first_awaited l.facts l.sent (commands_from l.facts l.device (l.place + 1) l.rest)) l.number l.at l.entry-index
