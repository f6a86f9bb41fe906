use Rattle.golog_replay.proofs.standing.Standing.is_silent.Goals as goal

pub returns : goal.returns
returns c = c.tracked.ensures.silent_so
