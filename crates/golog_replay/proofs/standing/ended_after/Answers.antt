use Rattle.std.proofs.Common.{[], ◌∷◌, ◌++◌, Some, sym, subst}
use Rattle.golog_replay.specs.Standings.{EndsBy}
use Rattle.golog_replay.proofs.Noting.{ends-now, ends-still, not-end}
use Rattle.golog_replay.proofs.standing.ended_after.Goals as goal

pub returns-in-End : goal.returns-in-End
returns-in-End c = λ journal h.
    subst (λ e. EndsBy (journal ++ e ∷ []) (Some c.in-End.answer)) (sym c.in-End.is) (ends-now journal c.in-End.answer)

pub returns-in_default : goal.returns-in_default
returns-in_default c = λ journal h. ends-still journal c.args.entry c.args.ended (not-end c.args.entry c.in_default.not-End) h
