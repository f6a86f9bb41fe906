use Rattle.golog_replay.proofs.standing.Standing.is_open.Goals as goal

pub returns : goal.returns
returns c = c.tracked.ensures.open_so
